-- A column of the lines is its slices, each rounded once, and slices and rest make the pool's energy; so the figures lie as near as roundings allow. Of whatever was given.
-- Assumes nothing.
use Prim.Native.Nat.{ℕ, ◌+◌, ◌*◌, ◌<◌}
use mathlib.Core.Path.{◌≡◌, refl, sym, ap, ◌∙◌}
use mathlib.Core.List.{List, [], ◌∷◌}
use native.Mathlib.Nat.{mul-add}
use lib.ListN.{length}
use Rattle.arithmetic.specs.Energy.{kwh, kwh_of}
use Rattle.arithmetic.specs.declared.energy.Kwh.{Kwh}
use Rattle.series.specs.Scan.{each, outputs}
use Rattle.series.specs.Sums.{sum_of}
use Rattle.series.specs.Cuts.{Cut, cuts_of, sliced_in, above_of}
use Rattle.series.proofs.Scanned.{each-length, each-each}
use Rattle.series.proofs.Each.{each_same}
use Rattle.vocabulary.specs.declared.direction.Direction.{Direction}
use Rattle.values.specs.declared.value.Quantity.{Quantity}
use Rattle.values.specs.declared.value.Quantity.TheVariants.{Setpoint, Actual, Acceptance}
use Rattle.contracts.specs.declared.terms.Terms.{Terms}
use Rattle.contracts.specs.Terms.{limits_of}
use Rattle.claims.specs.declared.claim.Claim.{Claim}
use Rattle.claims.specs.Claims.{claim_from}
use Rattle.claims.specs.Powers.{next}
use Rattle.claims.proofs.Rests.{awarded, series-parted}
use Rattle.quarter.specs.Quarter.{figures_of, figures_at}
use Rattle.meaning.specs.Figures.{claim_by, claims_by, shares_by, lines_by, rest_by, pool_by}
use Rattle.meaning.specs.Given.{Given, seconds_in, terms_in, powers_in, lines_in, pool_in}
use Rattle.explain.specs.Explained.{Column, SO, IS, AK, on_line, on_pool, rest_on, difference}
use Rattle.explain.proofs.Rounded.{roundings-apart, sum-times}

-- what a column is summed from
abbrev pub quantity_of : Column → Quantity
quantity_of SO = Setpoint
quantity_of IS = Actual
quantity_of AK = Acceptance

-- ---- a column of the lines: shares and prices have no part in it

abbrev on_claim : Column → Claim → ℕ
on_claim SO c = c.setpoint.0
on_claim IS c = c.actual.0
on_claim AK c = c.acceptance.0

line-claim : (c : Column) (shares : List Kwh) (ts : List Terms) (k : ℕ) (claim : Claim) → on_line c (figures_at shares ts k claim) ≡ on_claim c claim
unfolding figures_at figures_of
line-claim SO shares ts k claim = refl
line-claim IS shares ts k claim = refl
line-claim AK shares ts k claim = refl

lines-claims : (c : Column) (shares : List Kwh) (ts : List Terms) (k : ℕ) (claims : List Claim) → each (on_line c) (outputs next (figures_at shares ts) k claims) ≡ each (on_claim c) claims
unfolding each outputs
lines-claims c shares ts k [] = refl
lines-claims c shares ts k (x ∷ claims) = rw (line-claim c shares ts k x, lines-claims c shares ts (k + 1) claims)

module _ (seconds : ℕ) (powers : Quantity → List ℕ) where
  -- the exact energy of a slice, in unit-seconds
  abbrev exact : Column → Cut → ℕ
  exact c x = seconds * sliced_in (powers (quantity_of c)) x

  claim-exact : (c : Column) (x : Cut) → on_claim c (claim_by seconds powers x) ≡ kwh_of (exact c x)
  unfolding claim_by claim_from
  claim-exact SO x = refl
  claim-exact IS x = refl
  claim-exact AK x = refl

  module _ (c : Column) (ts : List Terms) where
    abbrev slices : List ℕ
    slices = each (exact c) (cuts_of (limits_of ts))

    pub lines-exact : each (on_line c) (lines_by seconds powers ts) ≡ each kwh_of slices
    unfolding lines_by
    lines-exact =
        lines-claims c (each kwh (shares_by seconds powers ts)) ts 0 (claims_by seconds powers ts)
        ∙ each-each (on_claim c) (claim_by seconds powers) (cuts_of (limits_of ts))
        ∙ each_same (λ x. on_claim c (claim_by seconds powers x)) (λ x. kwh_of (exact c x)) (claim-exact c) (cuts_of (limits_of ts))
        ∙ sym (each-each kwh_of (exact c) (cuts_of (limits_of ts)))

    -- as many as there are lines
    lines-count : length slices ≡ length (lines_by seconds powers ts)
    lines-count = sym (each-length kwh_of slices) ∙ ap length (sym lines-exact) ∙ each-length (on_line c) (lines_by seconds powers ts)

    -- slices and rest make the pool's energy, in unit-seconds
    exact-whole : sum_of slices + seconds * above_of (awarded ts) (powers (quantity_of c)) ≡ seconds * sum_of (powers (quantity_of c))
    exact-whole =
        rw (sum-times seconds (sliced_in (powers (quantity_of c))) (cuts_of (limits_of ts)))
        (sym (mul-add seconds (sum_of (each (sliced_in (powers (quantity_of c))) (cuts_of (limits_of ts)))) (above_of (awarded ts) (powers (quantity_of c))))
        ∙ ap (λ (n : ℕ). seconds * n) (series-parted ts (powers (quantity_of c))))

  pub pool-exact : (c : Column) (ts : List Terms) → on_pool c (pool_by seconds powers ts) ≡ kwh_of (seconds * sum_of (powers (quantity_of c)))
  unfolding pool_by
  pool-exact SO ts = refl
  pool-exact IS ts = refl
  pool-exact AK ts = refl

  pub rest-exact : (c : Column) (ts : List Terms) → rest_on c (pool_by seconds powers ts) ≡ kwh_of (seconds * above_of (awarded ts) (powers (quantity_of c)))
  unfolding pool_by rest_by
  rest-exact SO ts = refl
  rest-exact IS ts = refl
  rest-exact AK ts = refl

  column_apart : (c : Column) (ts : List Terms) → difference c (pool_by seconds powers ts) (lines_by seconds powers ts) * 2 < length (lines_by seconds powers ts) + 2
  column_apart c ts =
      rw (← lines-count c ts)
      (simp (lines-exact c ts, pool-exact c ts, rest-exact c ts)
      (roundings-apart (slices c ts) (seconds * above_of (awarded ts) (powers (quantity_of c))) (seconds * sum_of (powers (quantity_of c))) (exact-whole c ts)))

-- less than half a kWh for each line, the rest and the pool, in every column, direction and quarter hour
pub apart : (c : Column) (d : Direction) (g : Given) (q : ℕ) → difference c (pool_in d g q) (lines_in d g q) * 2 < length (lines_in d g q) + 2
unfolding pool_in lines_in
apart c d g q = column_apart (seconds_in g) (powers_in d g q) c (terms_in d g)
