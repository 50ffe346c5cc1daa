-- Powers that stay between two limits: a run of them, as the code counts it, and what their slices come to.
-- Assumes nothing.
use Rattle.std.proofs.Common.{◌≡◌, ℕ, ◌+◌, ◌-◌, ◌*◌, ◌%◌, ◌^◌, ◌<◌, ◌≤◌, List, [], ◌∷◌, ◌++◌, length, get_or, take, refl, zero-le, mod-eq_of_lt, suc-mul, zero-add, add-one, arith, take-suc}
use native.Mathlib.Nat.{mod-add-mod}
use Rattle.arithmetic.specs.Whole.{least_of}
use Rattle.series.specs.Sums.{over_of}
use Rattle.series.specs.Slices.{slice_of, sliced_of}
use Rattle.series.specs.Cuts.{above_of}
use Rattle.series.specs.Counts.{Between, Ran}
use Rattle.series.specs.Counts.Between.{none, more}
use Rattle.series.proofs.Sums.{over-snoc}

-- ---- a run between two limits

between-snoc : {low high v : ℕ} {l : List ℕ} → Between low high l → low ≤ v → v ≤ high → Between low high (l ++ (v ∷ []))
between-snoc none a b = more a b none
between-snoc (more c d r) a b = more c d (between-snoc r a b)

pub ran-none : (low high : ℕ) (l : List ℕ) → Ran low high l 0 0
unfolding over_of
ran-none low high l = record { within = zero-le; held = none; summed = refl }

pub ran-more : (low high : ℕ) (l : List ℕ) (sum i next j : ℕ) → i < length l → low ≤ get_or l i 0 → get_or l i 0 ≤ high → next ≡ (sum + (get_or l i 0 - low)) % 2 ^ 64
    → j ≡ i + 1 → Ran low high l sum i → Ran low high l next j
ran-more low high l sum i next j h a b e q r =
    let s : take j l ≡ take i l ++ (get_or l i 0 ∷ []) = rw (q, add-one i) (take-suc l i 0 h) in
    record {
      within = omega arith;
      held = rw s (between-snoc r.held a b);
      summed = rw (s, over-snoc (λ v. v - low) (take i l) (get_or l i 0), e, r.summed, mod-add-mod (above_of low (take i l)) (2 ^ 64) (get_or l i 0 - low));
    }

pub ran_first : (low high : ℕ) (l : List ℕ) → 0 < length l → low ≤ get_or l 0 0 → get_or l 0 0 ≤ high → get_or l 0 0 < 2 ^ 64 → Ran low high l (get_or l 0 0 - low) 1
ran_first low high l h a b f = ran-more low high l 0 0 (get_or l 0 0 - low) 1 h a b (rw (zero-add, mod-eq_of_lt (small f))) refl (ran-none low high l)
  where
    small : get_or l 0 0 < 2 ^ 64 → get_or l 0 0 - low < 2 ^ 64
    small f = omega arith

-- a power above the lower limit by no more than the width lies between the two; below it, the difference wraps and is larger
pub ran-lifted : (low high : ℕ) (l : List ℕ) (sum i j : ℕ) → i < length l → low ≤ high → high < 2 ^ 64 → get_or l i 0 < 2 ^ 64
    → (get_or l i 0 + (2 ^ 64 - low)) % 2 ^ 64 ≤ high - low → j ≡ i + 1 → Ran low high l sum i
    → Ran low high l ((sum + (get_or l i 0 + (2 ^ 64 - low)) % 2 ^ 64) % 2 ^ 64) j
ran-lifted low high l sum i j h up f v q k r =
    let a : (get_or l i 0 + (2 ^ 64 - low)) % 2 ^ 64 ≡ get_or l i 0 - low = omega arith in
    ran-more low high l sum i _ j h (omega arith) (omega arith) (rw a) k r

-- ---- the slices of powers that lie between two limits: full below them, what is above the lower one between them, nothing above them

module _ {a b : ℕ} where
  pub slices-full : (low high : ℕ) {s : List ℕ} → high ≤ a → Between a b s → sliced_of low high s ≡ length s * (high - low)
  unfolding over_of slice_of least_of
  slices-full low high h none = omega arith
  slices-full low high h (more {v} {l} p q r) =
      omega (arith, slices-full low high h r, suc-mul (length l) (high - low))

  pub slices-none : (low high : ℕ) {s : List ℕ} → b ≤ low → Between a b s → sliced_of low high s ≡ 0
  unfolding over_of slice_of least_of
  slices-none low high h none = omega arith
  slices-none low high h (more p q r) = omega (arith, slices-none low high h r)

  pub above-none : (low : ℕ) {s : List ℕ} → b ≤ low → Between a b s → above_of low s ≡ 0
  unfolding over_of
  above-none low h none = omega arith
  above-none low h (more p q r) = omega (arith, above-none low h r)

pub slices-part : {low high : ℕ} {s : List ℕ} → Between low high s → sliced_of low high s ≡ above_of low s
unfolding over_of slice_of least_of
slices-part none = refl
slices-part (more p q r) = omega (arith, slices-part r)
