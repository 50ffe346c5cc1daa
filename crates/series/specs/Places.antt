-- A list by its places: how the loops that write an array place by place say what stands in it.
use Rattle.std.specs.Prelude.{◌≡◌, ℕ, zero, suc, ◌<◌, ◌≤◌, List, [], ◌∷◌, ◌++◌, ℤ, pos, slice_index_or}

-- ys has f k at each place k from `low` on and before `high`
pub record Fills (f : ℕ → ℤ) (low high : ℕ) (ys : List ℤ) : Type 0 where
  pub at : (k : ℕ) → low ≤ k → k < high → slice_index_or ys k (pos 0) ≡ f k

-- f at 0, 1, .., n - 1
unfoldable pub table : (ℕ → ℤ) → ℕ → List ℤ
table f zero = []
table f (suc n) = table f n ++ (f n ∷ [])
