-- What each line makes of the checker and of what it keeps, and what is printed at the input's end (docs/RULES.md, 'Checking shares').
-- Up to E a line is put to the run as the settling program puts it (crates/text/specs/Desk.antt); nothing is printed for it.
use Rattle.std.specs.Prelude.{◌≡◌, ℕ, ◌+◌, ◌%◌, ◌^◌, ◌≤◌, Bool, true, false, cond, List, length, Ok, Err, ◌==◌}
use Rattle.vocabulary.specs.declared.refusal.Refusal.{Refusal}
use Rattle.vocabulary.specs.declared.refusal.Refusal.TheVariants.{WrongMoment, BadLine, NoEnd, MisplacedShare}
use Rattle.vocabulary.specs.Refusals.{Ruling, accepted}
use Rattle.vocabulary.specs.declared.header.Header.{Header}
use Rattle.vocabulary.specs.declared.sample.Sample.{Sample}
use Rattle.settlement.specs.declared.run.Run.{Run}
use Rattle.settlement.specs.declared.run.Answer.{Answer}
use Rattle.settlement.specs.Run.{no_run, opened_of, with_bounds_of, with_setpoint_of, contracted_of, sampled_of, taken_of, ended_of}
use Rattle.sheets.specs.Sheet.{refusal_text}
use Rattle.sheets.specs.Verdict.{verdict_text}
use Rattle.sheets.specs.Buffer.{Printed, print_answer, print_into}
use Rattle.reading.specs.Line.{identifier_of}
use Rattle.reading.specs.Share.{whose_of, asked_of}
use Rattle.reading.specs.declared.Line.{Line}
use Rattle.reading.specs.declared.Line.TheVariants as L
use Rattle.reading.specs.declared.share.Share.{Share}
use Rattle.reading.specs.declared.share.Asked.{Asked}
use Rattle.reading.specs.declared.share.Asked.TheVariants as A
use Rattle.judging.specs.Kept.{Kept, with_sheets, with_share}
use Rattle.judging.specs.Wanted.{wanted_in, share_ground, early_ground}
use Rattle.judging.specs.Judged.{judged_of}
use Rattle.checking.specs.declared.checker.Stage.{Stage}
use Rattle.checking.specs.declared.checker.Stage.TheVariants.{Empty, Open, Ended, Stopped}
use Rattle.checking.specs.declared.checker.Checker.{Checker}

abbrev pub checker_at : Stage → Run → Checker
checker_at stage run = record { run = run; stage = stage }

-- the checker, and what it keeps in the lent lists
pub record Standing : Type 0 where
  pub checker : Checker
  pub kept : Kept

abbrev pub standing : Checker → Kept → Standing
standing checker kept = record { checker = checker; kept = kept }

-- before the first line: what stands where nothing was opened
unfoldable pub empty_checker : Checker
empty_checker = checker_at Empty no_run

-- the first refusal, at the line of this number: nothing is read any more
unfoldable pub stopped_by : Run → ℕ → Refusal → Checker
stopped_by run number refusal = checker_at (Stopped (record { line = number; refusal = refusal })) run

-- what a call makes of a line: its refusal, or what follows
abbrev pub unless : Run → ℕ → Ruling → Checker → Checker
unless run number (Ok done) next = next
unless run number (Err refusal) next = stopped_by run number refusal

-- and of what is kept
abbrev pub turn_unless : Kept → Run → ℕ → Ruling → Standing → Standing
turn_unless kept run number (Ok done) next = next
turn_unless kept run number (Err refusal) next = standing (stopped_by run number refusal) kept

unfoldable pub opened_by : Run → ℕ → Header → Checker
opened_by run number header = unless run number (opened_of header).refusal (checker_at Open (opened_of header).run)

-- a line of a block, or a contract
unfoldable pub answered_by : Run → ℕ → Answer → Checker
answered_by run number answer = unless run number answer.refusal (checker_at Open answer.run)

-- E: from here on no U line has come yet
unfoldable pub ended_by : Run → ℕ → Checker
ended_by run number = unless run number (ended_of run).refusal (checker_at (Ended 0) (ended_of run).run)

-- ---- a sample

-- a quarter hour is taken when its last sample is in, and its gaps and surpluses are kept
unfoldable pub quarter_turn : Kept → Run → Standing
quarter_turn kept run =
    cond (accepted (taken_of run).refusal)
    (standing (checker_at Open (taken_of run).run) (with_sheets kept (taken_of run).quarter (taken_of run).sheets))
    (standing (checker_at Open run) kept)

unfoldable pub sample_turn : Kept → Run → ℕ → Sample → Standing
sample_turn kept run number sample =
    turn_unless kept run number (sampled_of run sample.setpoint sample.actual).refusal
    (quarter_turn kept (sampled_of run sample.setpoint sample.actual).run)

-- ---- a share

-- after n U lines
abbrev pub ground_of : Run → ℕ → Share → List ℕ → Ruling
ground_of run n share identifier = share_ground run.books (ended_of run).quarters n share identifier

unfoldable pub share_turn : Kept → Run → ℕ → ℕ → Share → List ℕ → Standing
share_turn kept run number n share identifier =
    turn_unless kept run number (ground_of run n share identifier) (standing (checker_at (Ended (n + 1)) run) (with_share kept n share.kwh))

-- ---- any line

-- "a malformed line is 14 and nothing further is looked at"; before the header, anything else is 1
abbrev pub first_by : Run → ℕ → Asked → Checker
first_by run number (A.Settling (L.Header header)) = opened_by run number header
first_by run number (A.Settling (L.Bounds bounds)) = stopped_by run number WrongMoment
first_by run number (A.Settling (L.Setpoint setpoint)) = stopped_by run number WrongMoment
first_by run number (A.Settling (L.Contract contract)) = stopped_by run number WrongMoment
first_by run number (A.Settling (L.Sample sample)) = stopped_by run number WrongMoment
first_by run number (A.Settling L.End) = stopped_by run number WrongMoment
first_by run number (A.Settling L.Malformed) = stopped_by run number BadLine
first_by run number (A.Share share) = stopped_by run number WrongMoment

-- after it, a header is 1, and a share comes too early: it is always refused
abbrev pub next_turn : Kept → Run → ℕ → List ℕ → Asked → Standing
next_turn kept run number line (A.Settling (L.Header header)) = standing (stopped_by run number WrongMoment) kept
next_turn kept run number line (A.Settling (L.Bounds bounds)) = standing (answered_by run number (with_bounds_of run bounds)) kept
next_turn kept run number line (A.Settling (L.Setpoint setpoint)) = standing (answered_by run number (with_setpoint_of run setpoint)) kept
next_turn kept run number line (A.Settling (L.Contract contract)) = standing (answered_by run number (contracted_of run contract (identifier_of line))) kept
next_turn kept run number line (A.Settling (L.Sample sample)) = sample_turn kept run number sample
next_turn kept run number line (A.Settling L.End) = standing (ended_by run number) kept
next_turn kept run number line (A.Settling L.Malformed) = standing (stopped_by run number BadLine) kept
next_turn kept run number line (A.Share share) = standing (unless run number (early_ground run (whose_of line)) (checker_at Open run)) kept

-- after E any line of a settling is 1
abbrev pub late_ground : Line → Refusal
late_ground (L.Header header) = WrongMoment
late_ground (L.Bounds bounds) = WrongMoment
late_ground (L.Setpoint setpoint) = WrongMoment
late_ground (L.Contract contract) = WrongMoment
late_ground (L.Sample sample) = WrongMoment
late_ground L.End = WrongMoment
late_ground L.Malformed = BadLine

abbrev pub later_turn : Kept → Run → ℕ → List ℕ → ℕ → Asked → Standing
later_turn kept run number line n (A.Settling said) = standing (stopped_by run number (late_ground said)) kept
later_turn kept run number line n (A.Share share) = share_turn kept run number n share (whose_of line)

-- after a refusal nothing is read
abbrev pub turn_at : Stage → Standing → ℕ → List ℕ → Standing
turn_at Empty s number line = standing (first_by s.checker.run number (asked_of line)) s.kept
turn_at Open s number line = next_turn s.kept s.checker.run number line (asked_of line)
turn_at (Ended n) s number line = later_turn s.kept s.checker.run number line n (asked_of line)
turn_at (Stopped fault) s number line = s

-- ONE COMPLETE LINE, with its number
unfoldable pub line_turn : Standing → ℕ → List ℕ → Standing
line_turn s number line = turn_at s.checker.stage s number line

-- whether a line was refused
abbrev pub stopped_at : Stage → Bool
stopped_at Empty = false
stopped_at Open = false
stopped_at (Ended n) = false
stopped_at (Stopped fault) = true

-- ---- the input's end

-- after E: 22 where a U line is missing, else the verdict
unfoldable pub ruled_text : Run → Kept → ℕ → ℕ → List ℕ
ruled_text run kept number n =
    cond (wanted_in run.books (ended_of run).quarters == n)
    (verdict_text (judged_of run.books kept (ended_of run).quarters))
    (refusal_text number (Err MisplacedShare))

abbrev pub finish_at : Stage → Standing → ℕ → List ℕ
finish_at Empty s number = refusal_text number (Err NoEnd)
finish_at Open s number = refusal_text number (Err NoEnd)
finish_at (Ended n) s number = ruled_text s.checker.run s.kept number n
finish_at (Stopped fault) s number = refusal_text fault.line (Err fault.refusal)

-- WHAT IS PRINTED, after so many complete lines: 15 and a U line that is missing have "the number of complete lines plus 1"
unfoldable pub finish_text : Standing → ℕ → List ℕ
finish_text s count = finish_at s.checker.stage s ((count + 1) % 2 ^ 64)

-- a call prints a text: its answer, and the bytes of the buffer; 128 bytes are always enough
pub record Told (out : List ℕ) (text : List ℕ) (r : Printed) (out' : List ℕ) : Type 0 where
  pub answer : r ≡ print_answer out text
  pub bytes : out' ≡ print_into out text
  pub room : length text ≤ 128
