-- Sums as std tells them, and as a settlement does.
-- Assumes nothing.
use Rattle.std.proofs.Common.{◌≡◌, ℕ, ◌+◌, List, [], ◌∷◌, refl, ◌∙◌, ap}
use Rattle.std.specs.List.{sum_by}
use Rattle.std.proofs.lemmas.List.Sums.{sum_by-cons}
use Rattle.series.specs.Scan.{each}
use Rattle.series.specs.Sums.{over_of, sum_of}

pub sum_by-each : {X : Type 0} (f : X → ℕ) (l : List X) → sum_by f l ≡ sum_of (each f l)
unfolding each over_of
sum_by-each f [] = refl
sum_by-each f (x ∷ l) = sum_by-cons f x l ∙ ap (λ n. f x + n) (sum_by-each f l)
