-- Energies rounded one by one, and their sum rounded once.
-- Assumes nothing.
use Prim.Native.Nat.{ℕ, zero, suc, ◌+◌, ◌*◌, ◌/◌, ◌≤◌, ◌<◌}
use mathlib.Core.Path.{◌≡◌, refl}
use mathlib.Core.List.{List, [], ◌∷◌}
use native.Mathlib.Omega.{arith}
use native.Mathlib.Nat.{mul-add, mul-zero}
use lib.ListN.{length, replicate}
use Rattle.arithmetic.specs.Energy.{kwh_of}
use Rattle.series.specs.Scan.{each}
use Rattle.series.specs.Sums.{over_of, sum_of}
use Rattle.explain.specs.Explained.{distance}

-- one rounding, half up: at most half a kWh more, and less than half a kWh less
one_more : (x : ℕ) → 19440000 * kwh_of x ≤ x + 9720000
unfolding kwh_of
one_more x = omega arith

one_less : (x : ℕ) → x < 19440000 * kwh_of x + 9720000
unfolding kwh_of
one_less x = omega arith

-- some roundings
some_more : (xs : List ℕ) → 19440000 * sum_of (each kwh_of xs) ≤ sum_of xs + 9720000 * length xs
unfolding each over_of
some_more [] = omega arith
some_more (x ∷ xs) = omega (arith, one_more x, some_more xs)

some-less : (xs : List ℕ) → sum_of xs ≤ 19440000 * sum_of (each kwh_of xs) + 9720000 * length xs
unfolding each over_of
some-less [] = omega arith
some-less (x ∷ xs) = omega (arith, one_less x, some-less xs)

-- at most half a kWh for each: parts and a rest that sum to a whole, each of them rounded once
pub roundings-apart : (xs : List ℕ) (rest whole : ℕ) → sum_of xs + rest ≡ whole → distance (kwh_of whole) (sum_of (each kwh_of xs) + kwh_of rest) * 2 < length xs + 2
unfolding distance
roundings-apart xs rest whole e = omega (arith, some_more xs, some-less xs, one_more rest, one_less rest, one_more whole, one_less whole)

-- and for any number of parts this is met, by half a kWh each: the most that is not excluded
halves : (n : ℕ) → sum_of (each kwh_of (replicate n 9720000)) ≡ n
unfolding each over_of kwh_of
halves zero = refl
halves (suc n) = omega (arith, halves n)

pub roundings-sharp : (n : ℕ) → distance (kwh_of ((n + 1) * 9720000)) (sum_of (each kwh_of (replicate n 9720000)) + kwh_of 9720000) ≡ (n + 1) / 2
unfolding distance kwh_of
roundings-sharp n = rw (halves n) (omega arith)

-- a factor before a sum
pub sum-times : {X : Type 0} (k : ℕ) (f : X → ℕ) (l : List X) → sum_of (each (λ x. k * f x) l) ≡ k * sum_of (each f l)
unfolding each over_of
sum-times k f [] = omega (arith, mul-zero k)
sum-times k f (x ∷ l) = omega (arith, mul-add k (f x) (sum_of (each f l)), sum-times k f l)
