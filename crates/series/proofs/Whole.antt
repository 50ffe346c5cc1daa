-- Nothing is lost in cutting: of each sample the slices and the rest are the power, and of a series their sums are its sum. Where the sum of a series
-- fits 64 bits, so do all its pieces.
-- Assumes nothing.
use Rattle.std.proofs.Common.{◌≡◌, ℕ, zero, suc, ◌+◌, ◌-◌, ◌%◌, ◌^◌, ◌<◌, ◌≤◌, List, [], ◌∷◌, ◌++◌, length, get_or, drop, replicate, refl, ◌∙◌, mod-eq_of_lt, arith, length-append, length-drop, get_or-drop}
use native.Mathlib.Nat.{mod-le}
use lib.ListN.{get_or-append}
use Rattle.arithmetic.specs.Whole.{least_of}
use Rattle.series.specs.Sums.{over_of, sum_of}
use Rattle.series.specs.Slices.{slice_of, sliced_of}
use Rattle.series.specs.Scan.{outputs, each}
use Rattle.series.specs.Cuts.{Cut, cut, highest, cuts_of, cut_at, last_of, slice_in, sliced_in, above_of, sum_held, no_sums, pieces_of}
use Rattle.series.proofs.Lists.{zeros}
use Rattle.series.proofs.Sums.{over-append, over-le, sum_zeros, sliced-le, sliced-exact}
use Rattle.series.proofs.Order.{Rising}
use Rattle.series.proofs.Order.Rising.{last, next}
use Rattle.series.proofs.Scanned.{outputs-length, each-length}
use Rattle.series.proofs.Cuts.{sums-32}

-- the cuts from a limit on, and the last limit from there
abbrev cuts_from : ℕ → List ℕ → List Cut
cuts_from = outputs highest cut

abbrev last_from : ℕ → List ℕ → ℕ
last_from low limits = get_or (low ∷ limits) (length limits) 0

-- ---- a sample

sample-from : {low : ℕ} {limits : List ℕ} (v : ℕ) → Rising low limits → sum_of (each (slice_in v) (cuts_from low limits)) + (v - last_from low limits) ≡ v - low
unfolding over_of outputs each slice_of least_of
sample-from v last = omega arith
sample-from v (next h r) = omega (arith, sample-from v r)

-- slices and rest of a sample are its power
pub sample-whole : {limits : List ℕ} (v : ℕ) → Rising 0 limits → sum_of (each (slice_in v) (cuts_of limits)) + (v - last_of limits) ≡ v
sample-whole v r = omega (arith, sample-from v r)

-- ---- a series

-- what lies above a limit is a slice and what lies above that
above-parted : (low high : ℕ) (l : List ℕ) → low ≤ high → sliced_of low high l + above_of high l ≡ above_of low l
unfolding over_of slice_of least_of
above-parted low high [] h = refl
above-parted low high (v ∷ l) h = omega (arith, above-parted low high l h)

pub above-all : (l : List ℕ) → above_of 0 l ≡ sum_of l
unfolding over_of
above-all [] = refl
above-all (v ∷ l) = omega (arith, above-all l)

series-from : {low : ℕ} {limits : List ℕ} (powers : List ℕ) → Rising low limits
    → sum_of (each (sliced_in powers) (cuts_from low limits)) + above_of (last_from low limits) powers ≡ above_of low powers
unfolding outputs each over_of
series-from powers last = omega arith
series-from {low} powers (next {high = high} h r) = omega (arith, above-parted low high powers h, series-from powers r)

-- the sums of the slices and of the rest are the sum of the series
pub series-whole : {limits : List ℕ} (powers : List ℕ) → Rising 0 limits → sum_of (each (sliced_in powers) (cuts_of limits)) + above_of (last_of limits) powers ≡ sum_of powers
series-whole powers r = series-from powers r ∙ above-all powers

-- ---- as 64 bits hold it

pub above-le : (low : ℕ) (l : List ℕ) → above_of low l ≤ sum_of l
above-le low l = over-le (λ v. v - low) (λ v. v) l (λ v. omega arith)

held-exact : (powers : List ℕ) (cuts : List Cut) → sum_of powers < 2 ^ 64 → each (sum_held powers) cuts ≡ each (sliced_in powers) cuts
unfolding each
held-exact powers [] h = refl
held-exact powers (c ∷ cuts) h = rw (sliced-exact c.low c.high powers h, held-exact powers cuts h)

-- no piece wraps where the series does not
pub pieces_exact : (limits powers : List ℕ) → sum_of powers < 2 ^ 64
    → pieces_of limits powers ≡ record { sums = each (sliced_in powers) (cuts_of limits) ++ drop (length limits) no_sums; rest = above_of (last_of limits) powers }
unfolding pieces_of
pieces_exact limits powers h =
    let rest : above_of (last_of limits) powers % 2 ^ 64 ≡ above_of (last_of limits) powers = mod-eq_of_lt (omega (arith, above-le (last_of limits) powers)) in
    rw (held-exact powers (cuts_of limits) h, rest)

-- past the slices stand zeros
drop-zeros : (k j : ℕ) → get_or (drop k no_sums) j 0 ≡ 0
unfolding no_sums
drop-zeros k j = get_or-drop k (replicate 32 0) j 0 ∙ zeros 32 (k + j)

sum-drop-zeros : (k : ℕ) → sum_of (drop k no_sums) ≡ 0
unfolding no_sums
sum-drop-zeros k = sum_zeros 32 k

-- the pieces that are handed back add up to the series
pub pieces_whole : {limits : List ℕ} (powers : List ℕ) → Rising 0 limits → sum_of powers < 2 ^ 64 → sum_of (pieces_of limits powers).sums + (pieces_of limits powers).rest ≡ sum_of powers
pieces_whole {limits} powers r h =
    let parted = over-append (λ v. v) (each (sliced_in powers) (cuts_of limits)) (drop (length limits) no_sums) in
    rw (pieces_exact limits powers h) (omega (arith, parted, sum-drop-zeros (length limits), series-whole powers r))

-- ---- the sums by place

-- the cut at a place
cut-from : {Y : Type 0} (f : Cut → Y) (low : ℕ) (limits : List ℕ) (k : ℕ) (d : Y) → k < length limits
    → get_or (each f (cuts_from low limits)) k d ≡ f (cut (get_or (low ∷ limits) k 0) (get_or limits k 0))
unfolding outputs each
cut-from f low [] k d h = absurd (omega arith)
cut-from f low (high ∷ limits) zero d h = refl
cut-from f low (high ∷ limits) (suc k) d h = cut-from f high limits k d (omega arith)

pub cut-at : {Y : Type 0} (f : Cut → Y) (limits : List ℕ) (k : ℕ) (d : Y) → k < length limits → get_or (each f (cuts_of limits)) k d ≡ f (cut_at limits k)
cut-at f limits k d h = cut-from f 0 limits k d h

cuts-length : {Y : Type 0} (f : Cut → Y) (limits : List ℕ) → length (each f (cuts_of limits)) ≡ length limits
cuts-length f limits = each-length f (cuts_of limits) ∙ outputs-length highest cut 0 limits

-- the sum at a place is that of its slice
pub pieces-at : (limits powers : List ℕ) (k : ℕ) → k < length limits → sum_of powers < 2 ^ 64 → get_or (pieces_of limits powers).sums k 0 ≡ sliced_in powers (cut_at limits k)
pieces-at limits powers k h fits =
    rw (pieces_exact limits powers fits)
    (get_or-append (each (sliced_in powers) (cuts_of limits)) (drop (length limits) no_sums) 0 k (omega (arith, cuts-length (sliced_in powers) limits))
    ∙ cut-at (sliced_in powers) limits k 0 h)

-- and none passes the sum of the series, at places that have no slice too
sums-le : (powers : List ℕ) (cuts : List Cut) (rest : List ℕ) (k : ℕ) → ((k : ℕ) → get_or rest k 0 ≤ sum_of powers) → get_or (each (sum_held powers) cuts ++ rest) k 0 ≤ sum_of powers
unfolding each
sums-le powers [] rest k h = h k
sums-le powers (c ∷ cuts) rest zero h = omega (arith, mod-le (sliced_in powers c) (2 ^ 64), sliced-le c.low c.high powers)
sums-le powers (c ∷ cuts) rest (suc k) h = sums-le powers cuts rest k h

pub pieces-le : (limits powers : List ℕ) (k : ℕ) → get_or (pieces_of limits powers).sums k 0 ≤ sum_of powers
unfolding pieces_of
pieces-le limits powers k = sums-le powers (cuts_of limits) (drop (length limits) no_sums) k (λ j. omega (arith, drop-zeros (length limits) j))

-- there are 32 sums
pub pieces-32 : (limits powers : List ℕ) → length limits ≤ 32 → length (pieces_of limits powers).sums ≡ 32
unfolding pieces_of
pieces-32 limits powers h =
    length-append (each (sum_held powers) (cuts_of limits)) (drop (length limits) no_sums)
    ∙ rw (cuts-length (sum_held powers) limits, length-drop (length limits) no_sums, sums-32) (omega arith)
