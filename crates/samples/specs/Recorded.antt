-- The first line of a recording, where it is a recorded sample whose second, setpoint and actual lie in the range of powers (RULES, 'Mending a recording').
use Rattle.std.specs.Prelude.{ℕ, ◌+◌, ◌-◌, Bool, cond, ◌&&◌, List, [], ◌∷◌, length, drop, ◌==◌, slice_index, Option, Some, None}
use Rattle.lines.specs.Lines.{lines_of}
use Rattle.reading.specs.Entry.{entry_of}
use Rattle.reading.specs.declared.entry.Entry.{Entry}
use Rattle.reading.specs.declared.entry.Entry.TheVariants as E
use Rattle.vocabulary.specs.Sample.{power_in_range}
use Rattle.vocabulary.specs.declared.recorded.Recorded.{Recorded}
use Rattle.samples.specs.declared.recorded.RecordedLine.{RecordedLine}

abbrev pub recorded_in_range : Recorded → Bool
recorded_in_range r = power_in_range r.second && (power_in_range r.sample.setpoint && power_in_range r.sample.actual)

-- a line that ends before `to`
abbrev pub recorded_by : ℕ → Entry → Option RecordedLine
recorded_by to (E.Recorded r) = cond (recorded_in_range r) (Some (record { recorded = r; to = to })) None
recorded_by to (E.Header h) = None
recorded_by to E.End = None
recorded_by to E.Malformed = None

-- the first of some lines, which start at `at`
unfoldable pub first_recorded : ℕ → List (List ℕ) → Option RecordedLine
first_recorded at [] = None
first_recorded at (line ∷ lines) = recorded_by (at + (length line + 1)) (entry_of line)

-- lines of which the last is complete, from a place on; nothing is read where it is not
unfoldable pub recorded_at : List ℕ → ℕ → Option RecordedLine
recorded_at s at = cond (slice_index s (length s - 1) == 10) (first_recorded at (lines_of (drop at s))) None
