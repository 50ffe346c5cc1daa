-- The lines of a recording, by their fields (docs/RULES.md, 'Mending a recording'):
--   D|date|interval|lot|quarters    G|second|setpoint|actual    E
-- D and E are those of a settlement; any other first field is 14.
use Rattle.std.specs.Prelude.{ℕ, cond, List, length, eqb, ltb, ℤ, Option, Some, None}
use Rattle.fields.specs.Fields.{fields, field_at}
use Rattle.fields.specs.Numbers.{number_of}
use Rattle.reading.specs.Line.{is_letter, header_of, end_of}
use Rattle.reading.specs.declared.Line.{Line}
use Rattle.reading.specs.declared.Line.TheVariants as L
use Rattle.reading.specs.declared.entry.Entry.{Entry}
use Rattle.reading.specs.declared.entry.Entry.TheVariants.{Header, Recorded, End, Malformed}
use Rattle.reading.specs.declared.entry.EntryKind.{EntryKind}
use Rattle.reading.specs.declared.entry.EntryKind.TheVariants as K

-- the first field: G, D or E
unfoldable pub entry_kind_of : List ℕ → EntryKind
entry_kind_of field = cond (is_letter 71 field) K.Recorded (cond (is_letter 68 field) K.Header (cond (is_letter 69 field) K.End K.Unknown))

-- what a line of a settlement says in a recording, which has its headers and its ends alone
abbrev pub entry_by : Line → Entry
entry_by (L.Header h) = Header h
entry_by (L.Bounds bounds) = Malformed
entry_by (L.Setpoint s) = Malformed
entry_by (L.Contract c) = Malformed
entry_by (L.Sample x) = Malformed
entry_by L.End = End
entry_by L.Malformed = Malformed

-- a second, a setpoint and an actual, each a number
abbrev pub recorded_fields : Option ℤ → Option ℤ → Option ℤ → Entry
recorded_fields (Some second) (Some setpoint) (Some actual) = Recorded (record { second = second; sample = record { setpoint = setpoint; actual = actual } })
recorded_fields (Some second) (Some setpoint) None = Malformed
recorded_fields (Some second) None actual = Malformed
recorded_fields None setpoint actual = Malformed

-- the fields are counted from 0, which is the letter
unfoldable pub recorded_of : List (List ℕ) → Entry
recorded_of fs = cond (eqb (length fs) 4) (recorded_fields (number_of (field_at 1 fs)) (number_of (field_at 2 fs)) (number_of (field_at 3 fs))) Malformed

abbrev pub by_entry_kind : EntryKind → List (List ℕ) → Entry
by_entry_kind K.Header fs = entry_by (header_of fs)
by_entry_kind K.Recorded fs = recorded_of fs
by_entry_kind K.End fs = entry_by (end_of fs)
by_entry_kind K.Unknown fs = Malformed

-- a line, without its LF
unfoldable pub entry_of : List ℕ → Entry
entry_of line = cond (ltb 80 (length line)) Malformed (by_entry_kind (entry_kind_of (field_at 0 (fields line))) (fields line))
