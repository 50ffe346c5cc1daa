-- How the code takes a line in parts: what a line asks for before the header; while the run is open, what the run answers to it and what follows.
-- What a line makes of the checker is said in Checker.antt, and these parts make the same (proofs/AnswerLaws.antt).
use Rattle.std.specs.Prelude.{ℕ, ◌+◌, List, ℤ, Result, Ok, Err}
use Rattle.vocabulary.specs.declared.refusal.Refusal.{Refusal}
use Rattle.vocabulary.specs.declared.refusal.Refusal.TheVariants.{WrongMoment, BadLine, NoEnd}
use Rattle.vocabulary.specs.Refusals.{Ruling, allowed}
use Rattle.vocabulary.specs.declared.header.Header.{Header}
use Rattle.settlement.specs.declared.run.Run.{Run}
use Rattle.settlement.specs.declared.run.Answer.{Answer}
use Rattle.settlement.specs.Run.{with_bounds_of, with_setpoint_of, contracted_of, sampled_of, ended_of}
use Rattle.sheets.specs.Sheet.{refusal_text}
use Rattle.reading.specs.Line.{identifier_of}
use Rattle.reading.specs.Share.{whose_of}
use Rattle.reading.specs.declared.Line.{Line}
use Rattle.reading.specs.declared.Line.TheVariants as L
use Rattle.reading.specs.declared.share.Asked.{Asked}
use Rattle.reading.specs.declared.share.Asked.TheVariants as A
use Rattle.judging.specs.Kept.{Kept, with_share}
use Rattle.judging.specs.Wanted.{early_ground}
use Rattle.checking.specs.Checker.{Standing, standing, checker_at, stopped_by, turn_unless, opened_by, quarter_turn, late_ground, ground_of, ruled_text}
use Rattle.checking.specs.declared.checker.Stage.{Stage}
use Rattle.checking.specs.declared.checker.Stage.TheVariants.{Empty, Open, Ended, Stopped}
use Rattle.checking.specs.declared.checker.Fault.{Fault}
use Rattle.checking.specs.declared.checker.Checker.{Checker}

abbrev pub fault_of : ℕ → Refusal → Fault
fault_of number refusal = record { line = number; refusal = refusal }

-- before the header: a header, or why the line is refused
abbrev pub opening_line : Line → Result Header Refusal
opening_line (L.Header header) = Ok header
opening_line (L.Bounds bounds) = Err WrongMoment
opening_line (L.Setpoint setpoint) = Err WrongMoment
opening_line (L.Contract contract) = Err WrongMoment
opening_line (L.Sample sample) = Err WrongMoment
opening_line L.End = Err WrongMoment
opening_line L.Malformed = Err BadLine

abbrev pub opening_of : Asked → Result Header Refusal
opening_of (A.Settling said) = opening_line said
opening_of (A.Share share) = Err WrongMoment

-- while the run is open: what it answers; to a line that comes out of place the refusal, with the run as it is
abbrev pub answering : Run → Ruling → Answer
answering run ruling = record { run = run; refusal = ruling }

abbrev pub line_answer : Run → List ℕ → Line → Answer
line_answer run line (L.Header header) = answering run (Err WrongMoment)
line_answer run line (L.Bounds bounds) = with_bounds_of run bounds
line_answer run line (L.Setpoint setpoint) = with_setpoint_of run setpoint
line_answer run line (L.Contract contract) = contracted_of run contract (identifier_of line)
line_answer run line (L.Sample sample) = sampled_of run sample.setpoint sample.actual
line_answer run line L.End = answering run (ended_of run).refusal
line_answer run line L.Malformed = answering run (Err BadLine)

abbrev pub answer_to : Run → List ℕ → Asked → Answer
answer_to run line (A.Settling said) = line_answer run line said
answer_to run line (A.Share share) = answering run (early_ground run (whose_of line))

-- what follows a line that was taken: the quarter hour may be full, or the run has ended
abbrev pub followed : Kept → Run → Asked → Standing
followed kept run (A.Settling (L.Header header)) = standing (checker_at Open run) kept
followed kept run (A.Settling (L.Bounds bounds)) = standing (checker_at Open run) kept
followed kept run (A.Settling (L.Setpoint setpoint)) = standing (checker_at Open run) kept
followed kept run (A.Settling (L.Contract contract)) = standing (checker_at Open run) kept
followed kept run (A.Settling (L.Sample sample)) = quarter_turn kept run
followed kept run (A.Settling L.End) = standing (checker_at (Ended 0) run) kept
followed kept run (A.Settling L.Malformed) = standing (checker_at Open run) kept
followed kept run (A.Share share) = standing (checker_at Open run) kept

-- the run has answered: its refusal, or what follows
abbrev pub answered_turn : Kept → Run → ℕ → Answer → Asked → Standing
answered_turn kept run number answer asked = turn_unless kept run number answer.refusal (followed kept answer.run asked)

-- after E: the share that a line says, or why it is refused
abbrev pub late_share : Run → ℕ → List ℕ → Asked → Result ℤ Refusal
late_share run n line (A.Settling said) = Err (late_ground said)
late_share run n line (A.Share share) = allowed (ground_of run n share (whose_of line)) share.kwh

abbrev pub shared : Kept → Run → ℕ → ℕ → Result ℤ Refusal → Standing
shared kept run number n (Ok kwh) = standing (checker_at (Ended (n + 1)) run) (with_share kept n kwh)
shared kept run number n (Err refusal) = standing (stopped_by run number refusal) kept

-- the input's end: the verdict after so many U lines, or a refusal
abbrev pub ending_of : Stage → ℕ → Result ℕ Fault
ending_of Empty number = Err (fault_of number NoEnd)
ending_of Open number = Err (fault_of number NoEnd)
ending_of (Ended n) number = Ok n
ending_of (Stopped fault) number = Err fault

abbrev pub ending_text : Run → Kept → ℕ → Result ℕ Fault → List ℕ
ending_text run kept number (Ok n) = ruled_text run kept number n
ending_text run kept number (Err fault) = refusal_text fault.line (Err fault.refusal)

-- before the header: what it makes of the checker
abbrev pub opening_by : Run → ℕ → Result Header Refusal → Checker
opening_by run number (Ok header) = opened_by run number header
opening_by run number (Err refusal) = stopped_by run number refusal
