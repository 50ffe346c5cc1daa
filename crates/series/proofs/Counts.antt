-- Powers counted by place: how one run more adds to the counts, so that they come to the slices of a series.
-- Assumes nothing.
use Rattle.std.proofs.Common.{◌≡◌, ℕ, zero, suc, ◌+◌, ◌-◌, ◌*◌, ◌%◌, ◌^◌, ◌<◌, ◌≤◌, List, length, get_or, take, drop, set, replicate, sym, ap, ◌∙◌, ⊎_elim, zero-le, add-zero, add_assoc, mod-lt, add-mul, zero-mul, arith, length-drop, length-set, length-take-le, get_or-set_other, get_or-set_same, take-add}
use native.Mathlib.Nat.{mod-mod, mod-add-mod, add-mod-mod, zero-sub}
use lib.ListN.{length-replicate}
use lib.Seq.{take-set-le}
use Rattle.series.specs.Sums.{over_of, sum_of}
use Rattle.series.specs.Slices.{slice_of}
use Rattle.series.specs.Cuts.{low_at, last_of, cut_at, sliced_in, above_of}
use Rattle.series.specs.Counts.{no_places, high_at, width_at, Same, Stepped, Counted, Orderly}
use Rattle.series.proofs.Lists.{get_d-other, zeros}
use Rattle.series.proofs.Order.{apart}
use Rattle.series.proofs.Sums.{over-append, sum-set, sum-take, sum-front, sum_zeros}
use Rattle.series.proofs.Runs.{slices-full, slices-part, slices-none, above-none}

-- ---- numbers that 64 bits hold alike

pub same-plus : (a b c : ℕ) → Same a b → Same (a + c) (b + c)
same-plus a b c e = sym (mod-add-mod a (2 ^ 64) c) ∙ ap (λ (x : ℕ). (x + c) % 2 ^ 64) e ∙ mod-add-mod b (2 ^ 64) c

-- ---- rising limits

-- a limit is no more than the lower one of a later place
pub low-after : (limits : List ℕ) → Orderly limits → (k j : ℕ) → k < j → j ≤ length limits → get_or limits k 0 ≤ low_at limits j
low-after limits o k zero h q = absurd (omega arith)
low-after limits o k (suc j) h q = o.rising k j (omega arith) q

-- ---- powers counted by place

pub counted_none : (limits powers : List ℕ) → Counted limits powers no_places no_places 0
unfolding no_places over_of
counted_none limits powers =
    record {
      within = zero-le;
      places = length-replicate {A = ℕ} 33 0;
      parted = length-replicate {A = ℕ} 33 0;
      counted = omega (arith, sum_zeros 33 0);
      fitting = λ k. omega (arith, zeros 33 k);
      slices = λ k h. ap (λ (x : ℕ). x % 2 ^ 64) (nothing k);
      rest = ap (λ (x : ℕ). x % 2 ^ 64) (zeros 33 (length limits));
    }
  where
    nothing : (k : ℕ) → get_or (replicate 33 0) k 0 + (0 - sum_of (take (suc k) (replicate 33 0))) * width_at limits k ≡ 0
    nothing k = rw (zeros 33 k, zero-sub, zero-mul)

-- how the count of a place grows, over plain numbers: p is what ends there, w its width, c what is counted up to it, s the slice so far
grows-below : (p at c n w s : ℕ) → c ≤ at → Same (p + (at - c) * w) s → Same (p + ((at + n) - c) * w) (s + n * w)
grows-below p at c n w s h e =
    let shift : (at + n) - c ≡ (at - c) + n = omega arith in
    rw (shift, add-mul (at - c) n w, ← add_assoc p ((at - c) * w) (n * w)) (same-plus (p + (at - c) * w) s (n * w) e)

grows-above : (p at c n w s : ℕ) → Same (p + (at - c) * w) s → Same (p + ((at + n) - (c + n)) * w) (s + 0)
grows-above p at c n w s e = let shift : (at + n) - (c + n) ≡ at - c = omega arith in rw (shift, add-zero s) e

grows-rest : (p s a : ℕ) → Same p s → Same ((p + a % 2 ^ 64) % 2 ^ 64) (s + a)
grows-rest p s a e = rw (mod-mod (p + a % 2 ^ 64) (2 ^ 64), add-mod-mod p a (2 ^ 64)) (same-plus p s a e)

grows_at : (p at c n w s a : ℕ) → Same (p + (at - c) * w) s → Same ((p + a % 2 ^ 64) % 2 ^ 64 + ((at + n) - (c + n)) * w) (s + a)
grows_at p at c n w s a e =
    let shift : (at + n) - (c + n) ≡ at - c = omega arith in
    let turn : (p + a % 2 ^ 64) + (at - c) * w ≡ (p + (at - c) * w) + a % 2 ^ 64 = omega arith in
    rw (shift, mod-add-mod (p + a % 2 ^ 64) (2 ^ 64) ((at - c) * w), turn, add-mod-mod (p + (at - c) * w) a (2 ^ 64)) (same-plus (p + (at - c) * w) s a e)

-- one run more: `count` powers that end at `place` and have `sum` above its lower limit
module _ (limits powers counts parts : List ℕ) (at place count sum : ℕ) (o : Orderly limits) (f : Counted limits powers counts parts at)
    (s : Stepped limits (drop at powers) place count sum) where
  abbrev run : List ℕ
  run = take count (drop at powers)

  abbrev counts' : List ℕ
  counts' = set counts place (get_or counts place 0 + count)

  abbrev parts' : List ℕ
  parts' = set parts place ((get_or parts place 0 + sum) % 2 ^ 64)

  -- what is counted up to a place, and its slice so far
  abbrev up_to : ℕ → ℕ
  up_to k = sum_of (take (suc k) counts)

  abbrev so_far : ℕ → ℕ
  so_far k = sliced_in (take at powers) (cut_at limits k)

  further : (g : ℕ → ℕ) → over_of g (take (at + count) powers) ≡ over_of g (take at powers) + over_of g run
  further g = rw (take-add at count powers) (over-append g (take at powers) run)

  front : (k : ℕ) → up_to k ≤ at
  front k = omega (arith, sum-take counts (suc k), f.counted)

  -- a place below the last has the same limit above it, whatever stands past the limits
  past : (k : ℕ) → k < length limits → high_at limits k ≡ get_or limits k 0
  past k h = get_d-other limits k 18446744073709551615 0 h

  -- the run stays below each limit from its place on
  under : (k : ℕ) → place < k → k ≤ length limits → high_at limits place ≤ low_at limits k
  under k h q = rw (past place (omega arith)) (low-after limits o place k h q)

  -- the slices below the place are full, that at the place has the sum, those above have nothing
  slice-below : (k : ℕ) → k < place → sliced_in run (cut_at limits k) ≡ count * width_at limits k
  slice-below k h =
      slices-full (low_at limits k) (get_or limits k 0) (low-after limits o k place h s.within) s.ran.held
      ∙ ap (λ (n : ℕ). n * width_at limits k) (length-take-le count (drop at powers) s.ran.within)

  slice_at : place < length limits → sliced_in run (cut_at limits place) ≡ above_of (low_at limits place) run
  slice_at h = slices-part (rw (past place h) at s.ran.held)

  slice-above : (k : ℕ) → place < k → k < length limits → sliced_in run (cut_at limits k) ≡ 0
  slice-above k h q = slices-none (low_at limits k) (get_or limits k 0) (under k h (omega arith)) s.ran.held

  abbrev Sliced : ℕ → Type 0
  Sliced k =
      Same (get_or parts' k 0 + ((at + count) - sum_of (take (suc k) counts')) * width_at limits k)
      (sliced_in (take (at + count) powers) (cut_at limits k))

  -- what stands in an array at another place than the run's
  others : (l : List ℕ) (v k : ℕ) → (k ≡ place → ⊥) → get_or (set l place v) k 0 ≡ get_or l k 0
  others l v k h = get_or-set_other l place k v 0 h

  more-below : (k : ℕ) → k < length limits → k < place → Sliced k
  more-below k q h =
      rw (
        others parts ((get_or parts place 0 + sum) % 2 ^ 64) k (λ e. omega arith),
        take-set-le (suc k) counts place (get_or counts place 0 + count) h,
        further (slice_of (low_at limits k) (get_or limits k 0)),
        slice-below k h,
      )
      (grows-below (get_or parts k 0) at (up_to k) count (width_at limits k) (so_far k) (front k) (f.slices k q))

  more-above : (k : ℕ) → k < length limits → place < k → Sliced k
  more-above k q h =
      rw (
        others parts ((get_or parts place 0 + sum) % 2 ^ 64) k (λ e. omega arith),
        sum-front counts (suc k) place count (omega arith) (omega (arith, f.places, o.few)),
        further (slice_of (low_at limits k) (get_or limits k 0)),
        slice-above k h q,
      )
      (grows-above (get_or parts k 0) at (up_to k) count (width_at limits k) (so_far k) (f.slices k q))

  more-at : place < length limits → Sliced place
  more-at h =
      rw (
        get_or-set_same parts place ((get_or parts place 0 + sum) % 2 ^ 64) 0 (omega (arith, f.parted, o.few)),
        sum-front counts (suc place) place count (omega arith) (omega (arith, f.places, o.few)),
        further (slice_of (low_at limits place) (get_or limits place 0)),
        slice_at h,
        s.ran.summed,
      )
      (grows_at (get_or parts place 0) at (up_to place) count (width_at limits place) (so_far place) (above_of (low_at limits place) run) (f.slices place h))

  slices-more : (k : ℕ) → k < length limits → Sliced k
  slices-more k q =
      ⊎_elim (more-below k q) (λ g. ⊎_elim (λ e. rw e (more-at (omega arith))) (more-above k q) g) (apart k place)

  Rest : ℕ → Type 0
  Rest last = Same (get_or parts' last 0) (above_of (low_at limits last) (take (at + count) powers))

  rest_below : place < length limits → Rest (length limits)
  unfolding Rest
  rest_below h =
      rw (
        others parts ((get_or parts place 0 + sum) % 2 ^ 64) (length limits) (λ e. omega arith),
        further (λ v. v - last_of limits),
        above-none (last_of limits) (under (length limits) h (omega arith)) s.ran.held,
        add-zero,
      )
      f.rest

  rest_at : place ≡ length limits → Rest (length limits)
  unfolding Rest
  rest_at e =
      rw (← e, get_or-set_same parts place ((get_or parts place 0 + sum) % 2 ^ 64) 0 (omega (arith, f.parted, o.few)), further (λ v. v - low_at limits place), s.ran.summed)
      (grows-rest (get_or parts place 0) (above_of (low_at limits place) (take at powers)) (above_of (low_at limits place) run) (rw e f.rest))

  rest_more : Rest (length limits)
  rest_more = ⊎_elim rest_below (λ g. ⊎_elim rest_at (λ h. absurd (omega (arith, s.within))) g) (apart place (length limits))

  fitting-more : (k : ℕ) → get_or parts' k 0 < 2 ^ 64
  fitting-more k = ⊎_elim (λ h. other (λ e. omega arith)) (λ g. ⊎_elim (λ e. rw e at_place) (λ h. other (λ e. omega arith)) g) (apart k place)
    where
      other : (k ≡ place → ⊥) → get_or parts' k 0 < 2 ^ 64
      other h = rw (others parts ((get_or parts place 0 + sum) % 2 ^ 64) k h) (f.fitting k)

      at_place : get_or parts' place 0 < 2 ^ 64
      at_place =
          rw (get_or-set_same parts place ((get_or parts place 0 + sum) % 2 ^ 64) 0 (omega (arith, f.parted, o.few, s.within)))
          (mod-lt (get_or parts place 0 + sum) (omega arith))

  pub counted-more : Counted limits powers counts' parts' (at + count)
  unfolding Rest
  counted-more =
      record {
        within = omega (arith, f.within, s.ran.within, length-drop at powers);
        places = length-set counts place (get_or counts place 0 + count) ∙ f.places;
        parted = length-set parts place ((get_or parts place 0 + sum) % 2 ^ 64) ∙ f.parted;
        counted = omega (arith, sum-set counts place count (omega (arith, f.places, o.few, s.within)), f.counted);
        fitting = fitting-more;
        slices = slices-more;
        rest = rest_more;
      }
