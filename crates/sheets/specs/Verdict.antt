-- What a checker of shares prints at the end (docs/RULES.md, 'Checking shares'): A|quarters, or F|quarter|P or N.
use Rattle.std.specs.Prelude.{ℕ, List, [], ◌∷◌}
use Rattle.print.specs.Decimal.{digits}
use Rattle.vocabulary.specs.declared.direction.Direction.{Direction}
use Rattle.sheets.specs.Sheet.{line_text, letter_of}
use Rattle.sheets.specs.declared.verdict.Verdict.{Verdict}
use Rattle.sheets.specs.declared.verdict.Verdict.TheVariants.{Accepted, Failing}

-- A: the quarter hours, all of which hold
unfoldable pub accepted_text : ℕ → List ℕ
accepted_text quarters = line_text 65 (digits quarters ∷ [])

-- F: the first quarter hour and direction that does not hold
unfoldable pub failing_text : ℕ → Direction → List ℕ
failing_text quarter direction = line_text 70 (digits quarter ∷ (letter_of direction ∷ []) ∷ [])

abbrev pub verdict_text : Verdict → List ℕ
verdict_text (Accepted quarters) = accepted_text quarters
verdict_text (Failing quarter direction) = failing_text quarter direction
