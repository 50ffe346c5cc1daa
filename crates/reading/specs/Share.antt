-- The lines that a checker of shares reads, by their fields (docs/RULES.md, 'Text'): those of an input that is settled, and
--   U|quarter|P or N|identifier|share
use Rattle.std.specs.Prelude.{ℕ, cond, List, length, eqb, ltb, ℤ, Option, Some, None}
use Rattle.vocabulary.specs.declared.direction.Direction.{Direction}
use Rattle.fields.specs.Fields.{fields, field_at}
use Rattle.fields.specs.Numbers.{number_of}
use Rattle.reading.specs.declared.Line.TheVariants.{Malformed}
use Rattle.reading.specs.declared.share.Asked.{Asked}
use Rattle.reading.specs.declared.share.Asked.TheVariants.{Settling, Share}
use Rattle.reading.specs.Line.{is_letter, direction_of, line_of}

-- one field of another form makes the line malformed
abbrev pub share_fields : Option ℤ → Option Direction → Option ℤ → Asked
share_fields (Some quarter) (Some direction) (Some kwh) = Share (record { quarter = quarter; direction = direction; kwh = kwh })
share_fields (Some quarter) (Some direction) None = Settling Malformed
share_fields (Some quarter) None kwh = Settling Malformed
share_fields None direction kwh = Settling Malformed

-- the fields are counted from 0, which is the letter
unfoldable pub share_of : List (List ℕ) → Asked
share_of fs =
    cond (eqb (length fs) 5) (share_fields (number_of (field_at 1 fs)) (direction_of (field_at 2 fs)) (number_of (field_at 4 fs))) (Settling Malformed)

-- the identifier, of any bytes, stands beside the line
unfoldable pub whose_of : List ℕ → List ℕ
whose_of line = field_at 3 (fields line)

-- a line, without its LF: U begins a share, and every other line says what it says to the settling program
unfoldable pub asked_of : List ℕ → Asked
asked_of line =
    cond (ltb 80 (length line)) (Settling Malformed) (cond (is_letter 85 (field_at 0 (fields line))) (share_of (fields line)) (Settling (line_of line)))
