-- `reading::is_letter` meets its contract. Assumes nothing.
use Rattle.std.proofs.Common.{rules, ◌≡◌, ℕ, List, [], ◌∷◌, nat_eq, refl}
use Rattle.std.specs.Cmp.Lexicographic.{pointwise}
use Rattle.reading.specs.Line.{is_letter}
use Rattle.reading.proofs.is_letter.Goals as goal

alone : (letter : ℕ) (xs : List ℕ) → pointwise nat_eq xs (letter ∷ []) ≡ is_letter letter xs
unfolding is_letter
alone letter [] = refl
alone letter (x ∷ []) = search rules
alone letter (x ∷ y ∷ xs) = search rules

pub returns : goal.returns
returns c = rw (← alone _ _, ← c.as_slice.ensures) c.eq.ensures
