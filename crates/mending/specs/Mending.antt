-- THE MEANING OF A RECORDING: which of its lines are good, what is refused, and what is printed, by what was given so far (docs/RULES.md, 'Mending a recording').
use Rattle.std.specs.Prelude.{ℕ, zero, suc, ◌+◌, ◌-◌, ◌*◌, ◌/◌, ◌%◌, Bool, true, false, cond, not, ◌&&◌, ◌||◌, List, [], ◌∷◌, ◌++◌, ℤ, pos, ◌==◌, int_le, int_lt, nat_le, nat_lt, Err}
use Rattle.arithmetic.specs.Whole.{up}
use Rattle.vocabulary.specs.declared.refusal.Refusal.TheVariants.{WrongMoment, BadPower, BadLine, NoEnd, NoFirstSample, HoleTooLong, SecondsOutOfOrder}
use Rattle.vocabulary.specs.Refusals.{Ruling, accepted}
use Rattle.vocabulary.specs.Grounds.{Ground, on, only, first}
use Rattle.vocabulary.specs.Sample.{power_in_range}
use Rattle.vocabulary.specs.declared.header.Header.{Header}
use Rattle.vocabulary.specs.declared.sample.Sample.{Sample}
use Rattle.vocabulary.specs.declared.recorded.Recorded.{Recorded}
use Rattle.vocabulary.specs.Interval.{windows_of}
use Rattle.settlement.specs.Calls.{header_grounds, interval_of}
use Rattle.print.specs.Decimal.{number_text}
use Rattle.sheets.specs.Sheet.{line_text, refusal_text}
use Rattle.lines.specs.Lines.{lines_of}
use Rattle.lines.specs.Walk.{walk}
use Rattle.reading.specs.Entry.{entry_of}
use Rattle.reading.specs.declared.entry.Entry.{Entry}
use Rattle.reading.specs.declared.entry.Entry.TheVariants as E
use Rattle.mending.specs.declared.grid.Grid.{Grid}

-- what a recording has said so far: nothing yet; a header and the lines after it, in order; or it is over, by its end or a refusal, and nothing is read any more
pub data SoFar : Type 0 where
  nothing : SoFar
  these : Header → List Recorded → SoFar
  over : SoFar

-- ---- what the header fixes

-- the interval, and the samples of the stretch, which have the places 0, 1, 2, ..
unfoldable pub grid_of : Header → Grid
grid_of h = record { interval = interval_of (up h.interval); places = up h.quarters * (windows_of (interval_of (up h.interval))).samples }

-- the seconds between two samples
abbrev pub seconds_of : Grid → ℕ
seconds_of t = (windows_of t.interval).seconds

-- the place of a second
abbrev pub place_of : Grid → ℤ → ℕ
place_of t second = up second / seconds_of t

-- ---- which lines are good

-- O: "a second outside the stretch or no multiple of the interval"
unfoldable pub outside : Grid → ℤ → Bool
outside t second = int_lt second (pos 0) || nat_le t.places (place_of t second) || not (up second % seconds_of t == 0)

-- one of some lines has this second
abbrev pub same : ℤ → ℤ → Bool
same a b = int_le a b && int_le b a

unfoldable pub among : ℤ → List Recorded → Bool
among second [] = false
among second (row ∷ rows) = same row.second second || among second rows

-- a line is good after some good ones: it is not O, and not T, "of other lines with one second the first stands"
unfoldable pub is_good : Grid → List Recorded → Recorded → Bool
is_good t good row = not (outside t row.second) && not (among row.second good)

abbrev pub with_good : Grid → List Recorded → Recorded → List Recorded
with_good t good row = cond (is_good t good row) (good ++ (row ∷ [])) good

-- the good ones of some lines, in order, after some that are good
unfoldable pub good_from : Grid → List Recorded → List Recorded → List Recorded
good_from t good [] = good
good_from t good (row ∷ rows) = good_from t (with_good t good row) rows

unfoldable pub good_of : Grid → List Recorded → List Recorded
good_of t rows = good_from t [] rows

-- ---- what is missing

-- the last of some lines, where there are any
pub data Last : Type 0 where
  none : Last
  last : Recorded → Last

unfoldable pub last_of : List Recorded → Last
last_of [] = none
last_of (row ∷ []) = last row
last_of (row ∷ (next ∷ rows)) = last_of (next ∷ rows)

-- the place after the last good line
abbrev pub next_place : Grid → Last → ℕ
next_place t none = 0
next_place t (last row) = place_of t row.second + 1

-- how many samples are missing in a row before a place
abbrev pub missing : Grid → List Recorded → ℕ → ℕ
missing t rows place = place - next_place t (last_of (good_of t rows))

-- ---- why a line is refused, in the order of the listing

-- 19: no good line came yet
abbrev pub is_none : Last → Bool
is_none none = true
is_none (last row) = false

-- 20: "missing samples in a row times interval above 60"
abbrev pub long_hole : Grid → List Recorded → ℕ → Bool
long_hole t rows place = nat_lt 60 (missing t rows place * seconds_of t)

-- 21: "a second smaller than the line's before"
abbrev pub is_earlier : ℤ → Last → Bool
is_earlier second none = false
is_earlier second (last row) = int_lt second row.second

-- a recorded sample, after the lines before it: 13; 19 and 20 before a good line; 21
unfoldable pub recorded_grounds : Grid → List Recorded → Recorded → List Ground
recorded_grounds t rows row =
    on BadPower (not (power_in_range row.sample.setpoint))
    ∷ on BadPower (not (power_in_range row.sample.actual))
    ∷ on NoFirstSample (is_good t (good_of t rows) row && is_none (last_of (good_of t rows)) && not (up row.second == 0))
    ∷ on HoleTooLong (is_good t (good_of t rows) row && long_hole t rows (place_of t row.second))
    ∷ on SecondsOutOfOrder (is_earlier row.second (last_of rows))
    ∷ []

-- the end: 19, 20
unfoldable pub end_grounds : Grid → List Recorded → List Ground
end_grounds t rows = on NoFirstSample (is_none (last_of (good_of t rows))) ∷ on HoleTooLong (long_hole t rows t.places) ∷ []

-- any line: a malformed one is 14 and nothing further is looked at; 1 for a header after the first, and for anything else before it
unfoldable pub grounds : SoFar → Entry → List Ground
grounds nothing (E.Header h) = header_grounds h
grounds nothing (E.Recorded row) = only WrongMoment
grounds nothing E.End = only WrongMoment
grounds nothing E.Malformed = only BadLine
grounds (these h rows) (E.Header h') = only WrongMoment
grounds (these h rows) (E.Recorded row) = recorded_grounds (grid_of h) rows row
grounds (these h rows) E.End = end_grounds (grid_of h) rows
grounds (these h rows) E.Malformed = only BadLine
grounds over entry = []

abbrev pub ground : SoFar → Entry → Ruling
ground so entry = first (grounds so entry)

-- ---- what is printed

-- a line that is dropped, by its second; a missing sample that is filled in, with its second; a good sample; a refusal, with the number of its line
pub data Item : Type 0 where
  stray : ℤ → Item
  repeated : ℤ → Item
  filled : ℕ → Sample → Item
  kept : Sample → Item
  refused : ℕ → Ruling → Item

-- the samples missing from a place on, so many of them, each with the values of the last good one
unfoldable pub filled_from : Grid → Sample → ℕ → ℕ → List Item
filled_from t x place zero = []
filled_from t x place (suc n) = filled (place * seconds_of t) x ∷ filled_from t x (place + 1) n

-- what is missing before a place
abbrev pub filled_after : Grid → Last → ℕ → List Item
filled_after t none place = []
filled_after t (last row) place = filled_from t row.sample (next_place t (last row)) (place - next_place t (last row))

unfoldable pub fillings : Grid → List Recorded → ℕ → List Item
fillings t rows place = filled_after t (last_of (good_of t rows)) place

-- a recorded sample that is not refused, after the lines before it: O is decided before T
unfoldable pub recorded_items : Grid → List Recorded → Recorded → List Item
recorded_items t rows row =
    cond (outside t row.second) (stray row.second ∷ [])
    (cond (among row.second (good_of t rows)) (repeated row.second ∷ [])
    (fillings t rows (place_of t row.second) ++ (kept row.sample ∷ [])))

-- any line that is not refused; at the end, what is missing up to the end of the stretch
unfoldable pub items : SoFar → Entry → List Item
items nothing entry = []
items (these h rows) (E.Header h') = []
items (these h rows) (E.Recorded row) = recorded_items (grid_of h) rows row
items (these h rows) E.End = fillings (grid_of h) rows (grid_of h).places
items (these h rows) E.Malformed = []
items over entry = []

-- ---- what was given, with a line that is not refused

unfoldable pub with : SoFar → Entry → SoFar
with nothing (E.Header h) = these h []
with nothing (E.Recorded row) = nothing
with nothing E.End = nothing
with nothing E.Malformed = nothing
with (these h rows) (E.Header h') = these h rows
with (these h rows) (E.Recorded row) = these h (rows ++ (row ∷ []))
with (these h rows) E.End = over
with (these h rows) E.Malformed = these h rows
with over entry = over

-- ---- a whole recording

-- line n is refused, or it says what it says; and nothing is read after a refusal
unfoldable pub says : SoFar → ℕ → List ℕ → List Item
says so n line = cond (accepted (ground so (entry_of line))) (items so (entry_of line)) (refused n (ground so (entry_of line)) ∷ [])

unfoldable pub after : SoFar → List ℕ → SoFar
after so line = cond (accepted (ground so (entry_of line))) (with so (entry_of line)) over

-- 15 where line n is not there
unfoldable pub ends : SoFar → ℕ → List Item
ends nothing n = refused n (Err NoEnd) ∷ []
ends (these h rows) n = refused n (Err NoEnd) ∷ []
ends over n = []

-- all that is printed for a recording, in order; lines count from 1
unfoldable pub recording : List ℕ → List Item
recording input = walk says after ends nothing 1 (lines_of input)

-- ---- as text

-- S: setpoint, actual
unfoldable pub sample_text : Sample → List ℕ
sample_text x = line_text 83 (number_text x.setpoint ∷ number_text x.actual ∷ [])

-- X: second, kind (a letter)
unfoldable pub mark_text : ℤ → ℕ → List ℕ
mark_text second kind = line_text 88 (number_text second ∷ (kind ∷ []) ∷ [])

-- O, T, M; "for M just before its S line"
unfoldable pub item_text : Item → List ℕ
item_text (stray second) = mark_text second 79
item_text (repeated second) = mark_text second 84
item_text (filled second x) = mark_text (pos second) 77 ++ sample_text x
item_text (kept x) = sample_text x
item_text (refused n refusal) = refusal_text n refusal

unfoldable pub items_text : List Item → List ℕ
items_text [] = []
items_text (item ∷ items) = item_text item ++ items_text items

-- WHAT IS PRINTED for a recording
unfoldable pub mended : List ℕ → List ℕ
mended input = items_text (recording input)
