-- How a loop over the limits comes to the pieces of a series: slice by slice, each from its own sum or from what is counted by place.
-- Assumes nothing.
use Rattle.std.proofs.Common.{◌≡◌, ℕ, zero, suc, ◌+◌, ◌-◌, ◌*◌, ◌%◌, ◌^◌, ◌<◌, ◌≤◌, List, [], ◌∷◌, length, get_or, take, set, sym, refl, ◌∙◌, zero-le, add-zero, mod-eq_of_lt, mul-le-mul, add-one, arith, take-suc}
use lib.Seq.{take-length}
use Rattle.arithmetic.specs.Whole.{least_of}
use Rattle.series.specs.Sums.{over_of, sum_of}
use Rattle.series.specs.Slices.{slice_of, sliced_of}
use Rattle.series.specs.Cuts.{cut, highest, low_at, last_of, above_of, sum_held, no_sums, pieces_of}
use Rattle.series.specs.Counts.{Counted, Orderly}
use Rattle.series.proofs.Sums.{over-snoc, sum-take}
use Rattle.series.proofs.Scanned.{Scanned, scanned-none, scanned-more, scanned-all, each-outputs}

pub sums-32 : length no_sums ≡ 32
unfolding no_sums
sums-32 = refl

-- what lies between a limit and the most that 64 bits hold is what lies above the limit
pub sliced-above : (low : ℕ) (l : List ℕ) → ((i : ℕ) → get_or l i 0 < 2 ^ 64) → sliced_of low 18446744073709551615 l ≡ above_of low l
unfolding over_of slice_of least_of
sliced-above low [] h = refl
sliced-above low (v ∷ l) h = omega (arith, h 0, sliced-above low l (λ i. h (suc i)))

-- ---- the pieces one after the other

abbrev held_at : List ℕ → ℕ → ℕ → ℕ
held_at powers low high = sum_held powers (cut low high)

-- the sums of the first k slices are stored, and the next begins at `low`
pub record Storing (limits powers sums : List ℕ) (low k : ℕ) : Type 0 where
  pub scanned : Scanned highest (held_at powers) 0 limits no_sums low sums k
  pub lower : low ≡ low_at limits k

pub storing-none : (limits powers : List ℕ) → Storing limits powers no_sums 0 0
storing-none limits powers = record { scanned = scanned-none highest (held_at powers) 0 limits no_sums; lower = refl }

pub storing-more : (limits powers sums : List ℕ) (low k next : ℕ) → length limits ≤ 32 → k < length limits → next ≡ held_at powers low (get_or limits k 0)
    → Storing limits powers sums low k → Storing limits powers (set sums k next) (get_or limits k 0) (k + 1)
storing-more limits powers sums low k next few h e m =
    record {
      scanned = rw e (scanned-more highest (held_at powers) 0 limits no_sums low sums k 0 (omega (arith, sums-32)) h m.scanned);
      lower = rw (add-one k);
    }

pub storing-all : (limits powers sums : List ℕ) (low k rest : ℕ) → length limits ≤ k → rest ≡ above_of low powers % 2 ^ 64 → Storing limits powers sums low k
    → record { sums = sums; rest = rest } ≡ pieces_of limits powers
unfolding pieces_of
storing-all limits powers sums low k rest h e m =
    let all : k ≡ length limits = omega (arith, m.scanned.within) in
    rw (
      e,
      m.lower,
      all,
      scanned-all highest (held_at powers) 0 limits no_sums low sums k h m.scanned,
      each-outputs (sum_held powers) highest cut 0 limits,
    )

-- ---- the pieces by what is counted

-- after k slices: the sums so far, and `higher` powers end in the next or above
pub record Summing (limits powers counts sums : List ℕ) (low higher k : ℕ) : Type 0 where
  pub storing : Storing limits powers sums low k
  pub left : higher + sum_of (take k counts) ≡ length powers

pub summing-none : (limits powers counts : List ℕ) → Summing limits powers counts no_sums 0 (length powers) 0
unfolding over_of
summing-none limits powers counts = record { storing = storing-none limits powers; left = add-zero (length powers) }

-- what one more slice asks, and what it gives
pub record Turn (limits powers counts parts sums : List ℕ) (low higher k : ℕ) : Type 0 where
  pub within : k < 32
  pub left : get_or counts k 0 ≤ higher
  pub rises : low ≤ get_or limits k 0
  pub fits : (higher - get_or counts k 0) * (get_or limits k 0 - low) < 2 ^ 64
  pub again : (next : ℕ) → next ≡ (get_or parts k 0 + (higher - get_or counts k 0) * (get_or limits k 0 - low)) % 2 ^ 64
      → Summing limits powers counts (set sums k next) (get_or limits k 0) (higher - get_or counts k 0) (k + 1)

-- what the loop goes by: orderly limits, a series that is not too long, and its powers counted
pub record Known (limits powers counts parts : List ℕ) : Type 0 where
  pub orderly : Orderly limits
  pub few : length powers ≤ 2 ^ 15
  pub counted : Counted limits powers counts parts (length powers)

module _ (limits powers counts parts : List ℕ) (n : Known limits powers counts parts) (sums : List ℕ) (low higher k : ℕ)
    (m : Summing limits powers counts sums low higher k) where
  abbrev high : ℕ
  high = get_or limits k 0

  -- how many powers end above the slice
  abbrev over : ℕ
  over = higher - get_or counts k 0

  module _ (h : k < length limits) where
    up_to : sum_of (take (suc k) counts) ≡ sum_of (take k counts) + get_or counts k 0
    up_to =
        rw (take-suc counts k 0 (omega (arith, n.counted.places, n.orderly.few))) (over-snoc (λ v. v) (take k counts) (get_or counts k 0))

    counts-left : get_or counts k 0 ≤ higher
    counts-left = omega (arith, up_to, m.left, sum-take counts (suc k), n.counted.counted)

    left_over : over ≡ length powers - sum_of (take (suc k) counts)
    left_over = omega (arith, up_to, m.left)

    rises : low ≤ high
    rises = rw m.storing.lower (from-below k h)
      where
        from-below : (j : ℕ) → j < length limits → low_at limits j ≤ get_or limits j 0
        from-below zero q = zero-le
        from-below (suc j) q = n.orderly.rising j (suc j) (omega arith) q

    product-fits : over * (high - low) < 2 ^ 64
    product-fits =
        let few : over ≤ 2 ^ 15 = omega (arith, m.left, n.few) in
        let wide : high - low ≤ 2 ^ 48 = omega (arith, n.orderly.small k h) in
        omega (arith, mul-le-mul {n₁ = over} {m₁ = high - low} {n₂ = 2 ^ 15} {m₂ = 2 ^ 48} few wide)

    summing-more : (next : ℕ) → next ≡ (get_or parts k 0 + over * (high - low)) % 2 ^ 64 → Summing limits powers counts (set sums k next) high over (k + 1)
    summing-more next e =
        record {
          storing = storing-more limits powers sums low k next n.orderly.few h (e ∙ same) m.storing;
          left = rw (add-one k, up_to) (omega (arith, m.left, counts-left));
        }
      where
        same : (get_or parts k 0 + over * (high - low)) % 2 ^ 64 ≡ held_at powers low high
        same = rw (left_over, m.storing.lower) (n.counted.slices k h ∙ rw (take-length powers))

    pub summing-turn : Turn limits powers counts parts sums low higher k
    summing-turn =
        record { within = omega (arith, n.orderly.few); left = counts-left; rises = rises; fits = product-fits; again = summing-more }

  pub summing-all : length limits ≤ k → record { sums = sums; rest = get_or parts k 0 } ≡ pieces_of limits powers
  summing-all h = storing-all limits powers sums low k (get_or parts k 0) h rest m.storing
    where
      at-end : k ≡ length limits
      at-end = omega (arith, m.storing.scanned.within)

      counted-rest : get_or parts (length limits) 0 ≡ above_of (last_of limits) powers % 2 ^ 64
      counted-rest = sym (mod-eq_of_lt (n.counted.fitting (length limits))) ∙ n.counted.rest ∙ rw (take-length powers)

      rest : get_or parts k 0 ≡ above_of low powers % 2 ^ 64
      rest = rw (m.storing.lower, at-end) counted-rest
