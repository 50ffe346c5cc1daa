-- What each line makes of the desk, and what is printed for it (docs/RULES.md, 'Text', 'The sheet').
use Rattle.std.specs.Prelude.{◌≡◌, ℕ, ◌+◌, ◌%◌, ◌^◌, ◌≤◌, cond, List, length, Ok, Err}
use Rattle.vocabulary.specs.declared.refusal.Refusal.TheVariants.{WrongMoment, BadLine, NoEnd}
use Rattle.vocabulary.specs.Refusals.{Ruling, accepted}
use Rattle.vocabulary.specs.declared.stage.Stage.{Stage}
use Rattle.vocabulary.specs.declared.stage.Stage.TheVariants.{Empty, Open, Closed}
use Rattle.vocabulary.specs.declared.header.Header.{Header}
use Rattle.vocabulary.specs.declared.sample.Sample.{Sample}
use Rattle.channel.specs.State.{handed_on}
use Rattle.settlement.specs.declared.run.Run.{Run}
use Rattle.settlement.specs.declared.run.Answer.{Answer}
use Rattle.settlement.specs.declared.run.Taken.{Taken}
use Rattle.settlement.specs.declared.run.Heading.{Heading}
use Rattle.settlement.specs.declared.run.Ended.{Ended}
use Rattle.settlement.specs.Run.{no_run, opened_of, with_bounds_of, with_setpoint_of, contracted_of, sampled_of, taken_of, ended_of, heading_of}
use Rattle.sheets.specs.Sheet.{head_text, quarter_text, closing_text, refusal_text}
use Rattle.sheets.specs.Buffer.{Printed, buffer_length, print_answer, print_into}
use Rattle.reading.specs.Line.{line_of, identifier_of}
use Rattle.reading.specs.declared.Line.{Line}
use Rattle.reading.specs.declared.Line.TheVariants as L
use Rattle.lines.specs.Turns as turns
use Rattle.lines.specs.Turns.{quiet}
use Rattle.settlement.specs.Many.{room_of, many_of}
use Rattle.text.specs.declared.desk.Desk.{Desk}
use Rattle.text.specs.declared.desk.Told.{Told}

-- the desk after a line, and the text that is printed for it
abbrev pub Turn : Type 0
Turn = turns.Turn Desk

abbrev pub desk_at : Stage → Run → Desk
desk_at stage run = record { run = run; stage = stage }

-- before the first line: what stands where an opening was refused
unfoldable pub empty_desk : Desk
empty_desk = desk_at Empty no_run

-- "on the first refusal the program prints R|line number|refusal and stops"
unfoldable pub refused_turn : Desk → ℕ → Ruling → Turn
refused_turn desk number refusal = record { desk = desk_at Closed desk.run; text = refusal_text number refusal }

-- what a call makes of a line: its refusal, or what follows
abbrev pub unless : Desk → ℕ → Ruling → Turn → Turn
unless desk number refusal turn = cond (accepted refusal) turn (refused_turn desk number refusal)

-- V, "printed once D is accepted"
abbrev pub head_of : Heading → List ℕ
head_of heading = head_text heading.date heading.interval heading.lot

unfoldable pub open_turn : Desk → ℕ → Header → Turn
open_turn desk number header =
    unless desk number (opened_of header).refusal
    (record { desk = desk_at Open (opened_of header).run; text = head_of (heading_of (opened_of header).run) })

-- a line of a block, or a contract: what the run answered, and nothing is printed
unfoldable pub answered_turn : Desk → ℕ → Answer → Turn
answered_turn desk number answer = unless desk number answer.refusal (quiet (desk_at Open answer.run))

-- Q and K, "printed when the last sample is in": with the contracts that the run had, and what was taken from it
unfoldable pub taken_text : Taken → List ℕ
taken_text taken = quarter_text taken.quarter taken.sheets

unfoldable pub quarter_turn : Run → Turn
quarter_turn run =
    cond (accepted (taken_of run).refusal)
    (record { desk = desk_at Open (taken_of run).run; text = taken_text (taken_of run) })
    (quiet (desk_at Open run))

unfoldable pub sample_turn : Desk → ℕ → Sample → Turn
sample_turn desk number sample =
    unless desk number (sampled_of desk.run sample.setpoint sample.actual).refusal
    (quarter_turn (sampled_of desk.run sample.setpoint sample.actual).run)

-- several samples, none of which is refused: after the last of them the quarter hour is taken if it is full
unfoldable pub samples_turn : Desk → List Sample → Turn
samples_turn desk samples = quarter_turn (many_of desk.run samples).run

-- how many samples more the desk takes before a quarter hour is full
abbrev pub room_at : Stage → Run → ℕ
room_at Empty run = 0
room_at Open run = room_of run
room_at Closed run = 0

-- T, and the block that the run hands on
abbrev pub closing_of : Ended → List ℕ
closing_of ended = closing_text ended.quarters ended.fees ended.penalties (handed_on ended.past)

unfoldable pub end_turn : Desk → ℕ → Turn
end_turn desk number =
    unless desk number (ended_of desk.run).refusal
    (record { desk = desk_at Closed (ended_of desk.run).run; text = closing_of (ended_of desk.run) })

-- "a malformed line is 14 and nothing further is looked at"; before the header, anything else is 1
unfoldable pub first_turn : Desk → ℕ → Line → Turn
first_turn desk number (L.Header header) = open_turn desk number header
first_turn desk number (L.Bounds bounds) = refused_turn desk number (Err WrongMoment)
first_turn desk number (L.Setpoint setpoint) = refused_turn desk number (Err WrongMoment)
first_turn desk number (L.Contract contract) = refused_turn desk number (Err WrongMoment)
first_turn desk number (L.Sample sample) = refused_turn desk number (Err WrongMoment)
first_turn desk number L.End = refused_turn desk number (Err WrongMoment)
first_turn desk number L.Malformed = refused_turn desk number (Err BadLine)

-- after it, a header is 1
unfoldable pub next_turn : Desk → ℕ → List ℕ → Line → Turn
next_turn desk number line (L.Header header) = refused_turn desk number (Err WrongMoment)
next_turn desk number line (L.Bounds bounds) = answered_turn desk number (with_bounds_of desk.run bounds)
next_turn desk number line (L.Setpoint setpoint) = answered_turn desk number (with_setpoint_of desk.run setpoint)
next_turn desk number line (L.Contract contract) = answered_turn desk number (contracted_of desk.run contract (identifier_of line))
next_turn desk number line (L.Sample sample) = sample_turn desk number sample
next_turn desk number line L.End = end_turn desk number
next_turn desk number line L.Malformed = refused_turn desk number (Err BadLine)

-- "after E nothing is read", and after a refusal
abbrev pub turn_at : Stage → Desk → ℕ → List ℕ → Turn
turn_at Empty desk number line = first_turn desk number (line_of line)
turn_at Open desk number line = next_turn desk number line (line_of line)
turn_at Closed desk number line = quiet desk

-- one complete line, with its number
unfoldable pub line_turn : Desk → ℕ → List ℕ → Turn
line_turn desk number line = turn_at desk.stage desk number line

-- the input ended after so many complete lines: 15 "is the number of complete lines plus 1"
abbrev pub finish_at : Stage → Desk → ℕ → Turn
finish_at Empty desk number = refused_turn desk number (Err NoEnd)
finish_at Open desk number = refused_turn desk number (Err NoEnd)
finish_at Closed desk number = quiet desk

unfoldable pub finish_turn : Desk → ℕ → Turn
finish_turn desk count = finish_at desk.stage desk ((count + 1) % 2 ^ 64)

-- what is handed back: where the buffer is too short for the text, the desk that came in
abbrev pub answer_of : Desk → Desk → Printed → Told
answer_of before after (Ok n) = record { desk = after; printed = Ok n }
answer_of before after (Err refusal) = record { desk = before; printed = Err refusal }

-- a call prints a turn: its answer, and the bytes of the buffer
pub record Prints (out : List ℕ) (before : Desk) (turn : Turn) (r : Told) (out' : List ℕ) : Type 0 where
  pub answer : r ≡ answer_of before turn.desk (print_answer out turn.text)
  pub bytes : out' ≡ print_into out turn.text

-- and a buffer of this length is always long enough
pub record Tells (out : List ℕ) (before : Desk) (turn : Turn) (r : Told) (out' : List ℕ) : Type 0 where
  pub prints : Prints out before turn r out'
  pub room : length turn.text ≤ buffer_length
