-- How the code holds what a recording has said, and what a line makes of that. `Mending` says the same over lists.
use Rattle.std.specs.Prelude.{◌≡◌, ℕ, ◌+◌, ◌-◌, ◌*◌, ◌%◌, ◌^◌, Bool, false, cond, not, ◌&&◌, List, [], ◌∷◌, ◌++◌, ℤ, pos, ◌==◌, int_lt, nat_lt, Option, Some, None, Ok, Err}
use Rattle.vocabulary.specs.declared.refusal.Refusal.TheVariants.{WrongMoment, BadPower, BadLine, NoEnd, NoFirstSample, HoleTooLong, SecondsOutOfOrder}
use Rattle.vocabulary.specs.Refusals.{Ruling, accepted}
use Rattle.vocabulary.specs.Grounds.{on, first}
use Rattle.vocabulary.specs.Sample.{power_in_range}
use Rattle.vocabulary.specs.declared.interval.Interval.TheVariants.{One}
use Rattle.vocabulary.specs.declared.header.Header.{Header}
use Rattle.vocabulary.specs.declared.recorded.Recorded.{Recorded}
use Rattle.settlement.specs.Calls.{open_refusal}
use Rattle.sheets.specs.Putting.{WroteUpTo}
use Rattle.lines.specs.Turns as turns
use Rattle.lines.specs.Turns.{quiet}
use Rattle.reading.specs.Entry.{entry_of}
use Rattle.reading.specs.declared.entry.Entry.{Entry}
use Rattle.reading.specs.declared.entry.Entry.TheVariants as E
use Rattle.mending.specs.Mending.{Item, stray, repeated, kept, refused, grid_of, seconds_of, place_of, outside, filled_from, items_text}
use Rattle.mending.specs.declared.grid.Grid.{Grid}
use Rattle.vocabulary.specs.declared.stage.Stage.{Stage}
use Rattle.vocabulary.specs.declared.stage.Stage.TheVariants.{Empty, Open, Closed}
use Rattle.mending.specs.declared.mender.Sorted.{Sorted}
use Rattle.mending.specs.declared.mender.Sorted.TheVariants.{Stray, Repeated, Good}
use Rattle.mending.specs.declared.mender.Mender.{Mender}
use Rattle.mending.specs.declared.mender.Told.{Told}

-- the mender after a line, and the text that is printed for it
abbrev pub Turn : Type 0
Turn = turns.Turn Mender

abbrev pub turned : Mender → List Item → Turn
turned m items = record { desk = m; text = items_text items }

-- 21: a second smaller than that of the line just before
abbrev pub earlier_than : Option ℤ → ℤ → Bool
earlier_than None second = false
earlier_than (Some last) second = int_lt second last

abbrev pub at_stage : Stage → Mender → Mender
at_stage stage m = record { stage = stage; grid = m.grid; next = m.next; last = m.last; before = m.before }

-- before the first line
unfoldable pub empty_mender : Mender
empty_mender =
    record { stage = Empty; grid = record { interval = One; places = 0 }; next = 0; last = record { setpoint = pos 0; actual = pos 0 }; before = None }

-- after a header
abbrev pub opened_by : Mender → Grid → Mender
opened_by m t = record { stage = Open; grid = t; next = m.next; last = m.last; before = m.before }

-- ---- a recorded sample

-- O, T or good: all places before the next one are taken
unfoldable pub sorted_at : Mender → ℤ → Sorted
sorted_at m second =
    cond (outside m.grid second) Stray (cond (nat_lt (place_of m.grid second) m.next) Repeated (Good (place_of m.grid second)))

unfoldable pub hole_refusal : Mender → ℕ → Ruling
hole_refusal m place =
    first (on NoFirstSample (m.next == 0 && not (place == 0)) ∷ on HoleTooLong (nat_lt 60 ((place - m.next) * seconds_of m.grid)) ∷ [])

abbrev pub sorted_refusal : Mender → Sorted → Ruling
sorted_refusal m Stray = Ok tt
sorted_refusal m Repeated = Ok tt
sorted_refusal m (Good place) = hole_refusal m place

unfoldable pub row_refusal : Mender → Sorted → Recorded → Ruling
row_refusal m sorted row =
    cond (not (power_in_range row.sample.setpoint)) (Err BadPower)
    (cond (not (power_in_range row.sample.actual)) (Err BadPower)
    (cond (accepted (sorted_refusal m sorted)) (cond (earlier_than m.before row.second) (Err SecondsOutOfOrder) (Ok tt))
    (sorted_refusal m sorted)))

-- what is missing up to a place
unfoldable pub rest_items : Mender → ℕ → List Item
rest_items m place = filled_from m.grid m.last m.next (place - m.next)

abbrev pub row_items : Mender → Sorted → Recorded → List Item
row_items m Stray row = stray row.second ∷ []
row_items m Repeated row = repeated row.second ∷ []
row_items m (Good place) row = rest_items m place ++ (kept row.sample ∷ [])

-- after a line that is dropped, and after a good one
abbrev pub dropped_at : Mender → ℤ → Mender
dropped_at m second = record { stage = m.stage; grid = m.grid; next = m.next; last = m.last; before = Some second }

abbrev pub taken_at : Mender → ℕ → Recorded → Mender
taken_at m place row = record { stage = m.stage; grid = m.grid; next = place + 1; last = row.sample; before = Some row.second }

abbrev pub with_row : Mender → Sorted → Recorded → Mender
with_row m Stray row = dropped_at m row.second
with_row m Repeated row = dropped_at m row.second
with_row m (Good place) row = taken_at m place row

-- ---- the end

unfoldable pub end_refusal : Mender → Ruling
end_refusal m =
    first (on NoFirstSample (m.next == 0) ∷ on HoleTooLong (nat_lt 60 ((m.grid.places - m.next) * seconds_of m.grid)) ∷ [])

-- ---- turns

unfoldable pub refused_turn : Mender → ℕ → Ruling → Turn
refused_turn m n refusal = turned (at_stage Closed m) (refused n refusal ∷ [])

abbrev pub unless : Mender → ℕ → Ruling → Turn → Turn
unless m n refusal turn = cond (accepted refusal) turn (refused_turn m n refusal)

unfoldable pub open_turn : Mender → ℕ → Header → Turn
open_turn m n h = unless m n (open_refusal h) (quiet (opened_by m (grid_of h)))

unfoldable pub sorted_turn : Mender → ℕ → Sorted → Recorded → Turn
sorted_turn m n sorted row = unless m n (row_refusal m sorted row) (turned (with_row m sorted row) (row_items m sorted row))

abbrev pub row_turn : Mender → ℕ → Recorded → Turn
row_turn m n row = sorted_turn m n (sorted_at m row.second) row

unfoldable pub end_turn : Mender → ℕ → Turn
end_turn m n = unless m n (end_refusal m) (turned (at_stage Closed m) (rest_items m m.grid.places))

-- before the header, and after it
abbrev pub first_turn : Mender → ℕ → Entry → Turn
first_turn m n (E.Header h) = open_turn m n h
first_turn m n (E.Recorded row) = refused_turn m n (Err WrongMoment)
first_turn m n E.End = refused_turn m n (Err WrongMoment)
first_turn m n E.Malformed = refused_turn m n (Err BadLine)

abbrev pub next_turn : Mender → ℕ → Entry → Turn
next_turn m n (E.Header h) = refused_turn m n (Err WrongMoment)
next_turn m n (E.Recorded row) = row_turn m n row
next_turn m n E.End = end_turn m n
next_turn m n E.Malformed = refused_turn m n (Err BadLine)

abbrev pub turn_at : Stage → Mender → ℕ → Entry → Turn
turn_at Empty m n entry = first_turn m n entry
turn_at Open m n entry = next_turn m n entry
turn_at Closed m n entry = quiet m

-- one complete line, with its number
unfoldable pub line_turn : Mender → ℕ → List ℕ → Turn
line_turn m n line = turn_at m.stage m n (entry_of line)

-- the input ended after so many complete lines: 15
abbrev pub finish_at : Stage → Mender → ℕ → Turn
finish_at Empty m n = refused_turn m n (Err NoEnd)
finish_at Open m n = refused_turn m n (Err NoEnd)
finish_at Closed m n = quiet m

unfoldable pub finish_turn : Mender → ℕ → Turn
finish_turn m count = finish_at m.stage m ((count + 1) % 2 ^ 64)

-- no line's text is longer
abbrev pub line_room : ℕ
line_room = 4184

-- a call prints a turn from place `at` on: what the mender is then, the bytes of the buffer, and the place after them
pub record Turns (out : List ℕ) (at : ℕ) (turn : Turn) (r : Told) (out' : List ℕ) : Type 0 where
  pub mender : r.mender ≡ turn.desk
  pub text : WroteUpTo line_room out at turn.text r.next out'
