-- What the slices of one series lack of those of another is the difference of two cuts: of the one, and of the smaller of both, sample by sample.
-- So a shortfall needs no loop of its own.
-- Assumes nothing.
use Rattle.std.proofs.Common.{◌≡◌, ℕ, ◌+◌, ◌-◌, ◌≤◌, List, [], ◌∷◌, get_or, drop, refl, ⊎_elim, arith}
use Rattle.arithmetic.specs.Whole.{least_of}
use Rattle.series.specs.Sums.{over_of}
use Rattle.series.specs.Slices.{slice_of, sliced_of, short_of, both_of}
use Rattle.series.proofs.Order.{Below, slice-mono, apart}
use Rattle.series.proofs.Order.Below.{none, more}

-- for a sample: what the slice lacks, and the slice of the smaller of both
least_first : (a b : ℕ) → a ≤ b → least_of a b ≡ a
unfolding least_of
least_first a b h = omega arith

least-second : (a b : ℕ) → b ≤ a → least_of a b ≡ b
unfolding least_of
least-second a b h = omega arith

lack-and-both : (low high want got : ℕ) → (slice_of low high want - slice_of low high got) + slice_of low high (least_of want got) ≡ slice_of low high want
lack-and-both low high want got = ⊎_elim (λ h. less (omega arith)) (λ g. ⊎_elim (λ e. less (omega arith)) (λ h. more (omega arith)) g) (apart want got)
  where
    less : want ≤ got → (slice_of low high want - slice_of low high got) + slice_of low high (least_of want got) ≡ slice_of low high want
    less h = rw (least_first want got h) (omega (arith, slice-mono low high h))

    more : got ≤ want → (slice_of low high want - slice_of low high got) + slice_of low high (least_of want got) ≡ slice_of low high want
    more h = rw (least-second want got h) (omega (arith, slice-mono low high h))

pub short-and-both : (low high : ℕ) (want got : List ℕ) → short_of low high want got + sliced_of low high (both_of want got) ≡ sliced_of low high want
unfolding short_of both_of over_of
short-and-both low high [] got = omega arith
short-and-both low high (w ∷ want) got =
    omega (arith, lack-and-both low high w (get_or got 0 0), short-and-both low high want (drop 1 got))

-- a shortfall as the difference of two sums
pub short-parted : (low high : ℕ) (want got : List ℕ) → short_of low high want got ≡ sliced_of low high want - sliced_of low high (both_of want got)
short-parted low high want got = omega (arith, short-and-both low high want got)

-- where the one is nowhere above the other, the smaller of both is itself
both_below : {got want : List ℕ} → Below got want → both_of want got ≡ got
unfolding both_of least_of
both_below none = refl
both_below (more {v} {w} h b) = let e : w - (w - v) ≡ v = omega arith in rw (e, both_below b)
