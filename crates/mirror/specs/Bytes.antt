-- The mirror of an input, byte by byte (docs/RULES.md, 'One rule for both directions'): every setpoint and actual is negated, P and N are exchanged on the contracts; of a block
-- OGA and UGA are exchanged and negated, and its setpoints negated.
use Rattle.std.specs.Prelude.{ℕ, cond, List, [], ◌∷◌, ◌++◌, eqb, length, drop}
use Rattle.series.specs.Scan.{each}
use Rattle.vocabulary.specs.Direction.{mirror_of}
use Rattle.print.specs.Fields.{tabbed}
use Rattle.sheets.specs.Sheet.{letter_of}
use Rattle.lines.specs.Lines.{lines_of}
use Rattle.fields.specs.Fields.{fields, field_at}
use Rattle.reading.specs.Line.{line_of}
use Rattle.reading.specs.declared.Line.{Line}
use Rattle.reading.specs.declared.Line.TheVariants as L

-- a number: `-n` becomes `n`, `0` stays, any other `n` becomes `-n`. A minus is byte 45, a zero 48
unfoldable pub mirror_number : List ℕ → List ℕ
mirror_number [] = []
mirror_number (x ∷ xs) = cond (eqb x 45) xs (cond (eqb x 48) (x ∷ xs) (45 ∷ (x ∷ xs)))

-- the fields of a line, by what it says; they are counted from 0, which is the letter. A header, an end and a line that is malformed stay as they are
abbrev pub mirror_fields : Line → List (List ℕ) → List (List ℕ)
mirror_fields (L.Header h) fs = fs
mirror_fields (L.Bounds bounds) fs = field_at 0 fs ∷ mirror_number (field_at 2 fs) ∷ mirror_number (field_at 1 fs) ∷ []
mirror_fields (L.Setpoint s) fs = field_at 0 fs ∷ mirror_number (field_at 1 fs) ∷ []
mirror_fields (L.Contract c) fs = field_at 0 fs ∷ (letter_of (mirror_of c.direction) ∷ []) ∷ field_at 2 fs ∷ field_at 3 fs ∷ field_at 4 fs ∷ []
mirror_fields (L.Sample x) fs = field_at 0 fs ∷ mirror_number (field_at 1 fs) ∷ mirror_number (field_at 2 fs) ∷ []
mirror_fields L.End fs = fs
mirror_fields L.Malformed fs = fs

-- fields with one tab between them
abbrev pub parted : List (List ℕ) → List ℕ
parted [] = []
parted (f ∷ fs) = f ++ tabbed fs

-- a line, without its LF
unfoldable pub mirror_bytes : List ℕ → List ℕ
mirror_bytes line = parted (mirror_fields (line_of line) (fields line))

-- lines, each with its LF
unfoldable pub ended : List (List ℕ) → List ℕ
ended [] = []
ended (line ∷ lines) = line ++ (10 ∷ ended lines)

-- AN INPUT: its complete lines one by one; what follows the last LF stays
unfoldable pub mirror_input : List ℕ → List ℕ
mirror_input input = ended (each mirror_bytes (lines_of input)) ++ drop (length (ended (lines_of input))) input
