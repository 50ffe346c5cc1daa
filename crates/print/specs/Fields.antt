-- The fields of a line (docs/RULES.md, 'The sheet').
use Rattle.std.specs.Prelude.{ℕ, List, [], ◌∷◌, ◌++◌}
use Rattle.print.specs.Decimal.{tab}

-- fields, each after a tab
unfoldable pub tabbed : List (List ℕ) → List ℕ
tabbed [] = []
tabbed (field ∷ fields) = tab ++ field ++ tabbed fields
