-- How the code serves a line: whether it comes in its place, and then what the run is asked. `line_turn` says the same by stages.
use Rattle.std.specs.Prelude.{◌≡◌, ℕ, ◌≤◌, List, length, ℤ, Ok, Err}
use Rattle.vocabulary.specs.declared.refusal.Refusal.TheVariants.{WrongMoment, BadLine, BufferTooShort}
use Rattle.vocabulary.specs.Refusals.{Ruling}
use Rattle.vocabulary.specs.declared.stage.Stage.{Stage}
use Rattle.vocabulary.specs.declared.stage.Stage.TheVariants.{Empty, Open, Closed}
use Rattle.settlement.specs.declared.bare.Bare.{Bare}
use Rattle.settlement.specs.declared.run.Run.{Run}
use Rattle.settlement.specs.declared.run.Answer.{Answer}
use Rattle.settlement.specs.Run.{with_bounds_of, with_setpoint_of, contracted_of, sampled_of, heading_of}
use Rattle.settlement.specs.Bare.{bare_of, whole_of}
use Rattle.sheets.specs.Buffer.{Printed, buffer_length, print_answer, print_into, Yields}
use Rattle.reading.specs.Line.{identifier_of}
use Rattle.reading.specs.declared.Line.{Line}
use Rattle.reading.specs.declared.Line.TheVariants as L
use Rattle.lines.specs.Turns.{quiet}
use Rattle.text.specs.declared.desk.Desk.{Desk}
use Rattle.text.specs.declared.desk.Told.{Told}
use Rattle.text.specs.declared.desk.BareTold.{BareTold}
use Rattle.text.specs.Desk.{Turn, desk_at, head_of, unless, refused_turn, open_turn, answered_turn, quarter_turn, sample_turn, end_turn}

-- what is wrong with a line before the header
abbrev pub early : Line → Ruling
early (L.Header header) = Ok tt
early (L.Bounds bounds) = Err WrongMoment
early (L.Setpoint setpoint) = Err WrongMoment
early (L.Contract contract) = Err WrongMoment
early (L.Sample sample) = Err WrongMoment
early L.End = Err WrongMoment
early L.Malformed = Err BadLine

-- and after it
abbrev pub late : Line → Ruling
late (L.Header header) = Err WrongMoment
late (L.Bounds bounds) = Ok tt
late (L.Setpoint setpoint) = Ok tt
late (L.Contract contract) = Ok tt
late (L.Sample sample) = Ok tt
late L.End = Ok tt
late L.Malformed = Err BadLine

abbrev pub misplaced_at : Stage → Line → Ruling
misplaced_at Empty said = early said
misplaced_at Open said = late said
misplaced_at Closed said = Ok tt

-- what the run is asked by a line in its place
unfoldable pub served_turn : Desk → ℕ → List ℕ → Line → Turn
served_turn desk number line (L.Header header) = open_turn desk number header
served_turn desk number line (L.Bounds bounds) = answered_turn desk number (with_bounds_of desk.run bounds)
served_turn desk number line (L.Setpoint setpoint) = answered_turn desk number (with_setpoint_of desk.run setpoint)
served_turn desk number line (L.Contract contract) = answered_turn desk number (contracted_of desk.run contract (identifier_of line))
served_turn desk number line (L.Sample sample) = sample_turn desk number sample
served_turn desk number line L.End = end_turn desk number
served_turn desk number line L.Malformed = refused_turn desk number (Err BadLine)

-- what the run answers to it: a header, the end and a malformed line ask nothing of it here
abbrev pub unasked_of : Run → Ruling → Answer
unasked_of run ruling = record { run = run; refusal = ruling }

unfoldable pub asked_of : Run → List ℕ → Line → Answer
asked_of run line (L.Header header) = unasked_of run (Ok tt)
asked_of run line (L.Bounds bounds) = with_bounds_of run bounds
asked_of run line (L.Setpoint setpoint) = with_setpoint_of run setpoint
asked_of run line (L.Contract contract) = contracted_of run contract (identifier_of line)
asked_of run line (L.Sample sample) = sampled_of run sample.setpoint sample.actual
asked_of run line L.End = unasked_of run (Ok tt)
asked_of run line L.Malformed = unasked_of run (Err BadLine)

-- and what follows where it refuses nothing
unfoldable pub followed_turn : Desk → ℕ → Line → Turn
followed_turn desk number (L.Header header) = open_turn desk number header
followed_turn desk number (L.Bounds bounds) = quiet desk
followed_turn desk number (L.Setpoint setpoint) = quiet desk
followed_turn desk number (L.Contract contract) = quiet desk
followed_turn desk number (L.Sample sample) = quarter_turn desk.run
followed_turn desk number L.End = end_turn desk number
followed_turn desk number L.Malformed = quiet desk

unfoldable pub placed_turn : Desk → ℕ → List ℕ → Line → Turn
placed_turn desk number line said = unless desk number (misplaced_at desk.stage said) (served_turn desk number line said)

-- a header was accepted: the run is open, and V is printed
abbrev pub begun_turn : Run → Turn
begun_turn run = record { desk = desk_at Open run; text = head_of (heading_of run) }

abbrev pub told_by : Desk → Printed → Told
told_by desk printed = record { desk = desk; printed = printed }

-- a call prints a turn: the desk after it, whether or not the buffer was long enough, and the bytes of the buffer
pub record Turned (out : List ℕ) (turn : Turn) (r : Told) (out' : List ℕ) : Type 0 where
  pub told : r ≡ told_by turn.desk (print_answer out turn.text)
  pub bytes : out' ≡ print_into out turn.text
  pub room : length turn.text ≤ buffer_length

-- ---- samples of which a reader has the powers

-- what is told, with the powers again
abbrev pub told_with : BareTold → List ℤ → List ℤ → Told
told_with r setpoints actuals = told_by (desk_at Open (whole_of r.bare setpoints actuals)) r.printed

-- the turn of a run without them: its run, and what is printed
abbrev pub bare_turned : Turn → BareTold
bare_turned turn = record { bare = bare_of turn.desk.run; printed = Ok (length turn.text) }

-- after samples that are counted: the quarter hour is taken if it is full
abbrev pub Settles : List ℕ → Bare → List ℤ → List ℤ → BareTold → List ℕ → Type 0
Settles out bare setpoints actuals r out' =
    Yields (λ (t : BareTold). t.printed) buffer_length out (record { bare = bare; printed = Err BufferTooShort }) (bare_turned (quarter_turn (whole_of bare setpoints actuals)))
    (quarter_turn (whole_of bare setpoints actuals)).text r out'
