-- The energies that are cut out for all contracts at once are, place by place, those of their slices; and the claims made of them are those of the contracts.
-- Assumes nothing.
use Rattle.std.proofs.Common.{◌≡◌, ℕ, zero, suc, ◌+◌, ◌-◌, ◌<◌, ◌≤◌, List, [], ◌∷◌, length, get_or, take, sym, refl, ap, ◌∙◌, add-zero, zero-add, arith, length-take-le, get_or-take, ext_get_or}
use Rattle.arithmetic.specs.Energy.{kwh}
use Rattle.arithmetic.specs.declared.energy.Kwh.{Kwh}
use Rattle.series.specs.Scan.{outputs, each}
use Rattle.series.specs.Slices.{both_of}
use Rattle.series.specs.Cuts.{sliced_in, pieces_of, cut, cut_at, cuts_of, highest}
use Rattle.series.proofs.Whole.{cut-at, pieces_exact, pieces-at, pieces-32}
use Rattle.series.proofs.Shorts.{short-parted}
use Rattle.series.proofs.Scanned.{each-length, outputs-length}
use Rattle.values.specs.declared.value.Quantity.{Quantity}
use Rattle.values.specs.declared.value.Quantity.TheVariants.{Setpoint, Actual, Acceptance, Inner, Floor, Covered}
use Rattle.claims.specs.Blank.{no_claim}
use Rattle.claims.specs.Powers.{next}
use Rattle.claims.specs.Views.{energy_held, claim_at, joined_of, less_at, less_of}
use Rattle.claims.specs.Claims.{slice_energy, lack_energy, rest_energy, claim_of}
use Rattle.claims.specs.Room.{Small}
use Rattle.claims.specs.declared.claim.Claim.{Claim}

-- f of each, at a place
pub each_in : {X Y : Type 0} (f : X → Y) (l : List X) (k : ℕ) (x : X) (y : Y) → k < length l → get_or (each f l) k y ≡ f (get_or l k x)
unfolding each
each_in f [] k x y h = absurd (omega arith)
each_in f (z ∷ l) zero x y h = refl
each_in f (z ∷ l) (suc k) x y h = each_in f l k x y (omega arith)

-- what stands at a place of outputs that go by it
pub along : {X Y : Type 0} (f : ℕ → X → Y) (i : ℕ) (l : List X) (k : ℕ) (x : X) (y : Y) → k < length l → get_or (outputs next f i l) k y ≡ f (i + k) (get_or l k x)
unfolding outputs
along f i [] k x y h = absurd (omega arith)
along f i (z ∷ l) zero x y h = rw (add-zero i)
along f i (z ∷ l) (suc k) x y h = along f (i + 1) l k x y (omega arith) ∙ ap (λ (j : ℕ). f j (get_or l k x)) (step i k)
  where
    step : (i k : ℕ) → i + 1 + k ≡ i + suc k
    step i k = omega arith

-- ---- the energies of a cut

module _ (seconds : ℕ) (limits powers : List ℕ) (fits : Small seconds powers) where
  -- of the rest above the last limit
  pub rest_at : energy_held seconds (pieces_of limits powers).rest ≡ rest_energy seconds powers limits
  unfolding energy_held rest_energy
  rest_at = rw (pieces_exact limits powers fits.plain)

  module _ (few : length limits ≤ 32) (k : ℕ) (h : k < length limits) where
    pub sum-at : get_or (pieces_of limits powers).sums k 0 ≡ sliced_in powers (cut_at limits k)
    sum-at = pieces-at limits powers k h fits.plain

    pub in-sums : k < length (pieces_of limits powers).sums
    in-sums = omega (arith, pieces-32 limits powers few)

    -- of each slice
    pub slice_at : get_or (each (energy_held seconds) (pieces_of limits powers).sums) k (kwh 0) ≡ slice_energy seconds powers (cut_at limits k)
    unfolding energy_held slice_energy
    slice_at = each_in (energy_held seconds) (pieces_of limits powers).sums k 0 (kwh 0) in-sums ∙ rw sum-at

-- ---- what is short

pub less-at : (sums others : List ℕ) (k : ℕ) → k < length sums → get_or (less_of sums others) k 0 ≡ get_or sums k 0 - get_or others k 0
unfolding less_at
less-at sums others k h = along (less_at others) 0 sums k 0 0 h ∙ ap (λ (j : ℕ). get_or sums k 0 - get_or others j 0) (zero-add k)

pub less-32 : (sums others : List ℕ) → length (less_of sums others) ≡ length sums
less-32 sums others = outputs-length next (less_at others) 0 sums

module _ (seconds : ℕ) (limits inner kept : List ℕ) (fits : Small seconds inner) (small : Small seconds kept) where
  abbrev all : List ℕ
  all = (pieces_of limits inner).sums

  abbrev part : List ℕ
  part = (pieces_of limits kept).sums

  pub lack-at : (covered : List ℕ) → kept ≡ both_of inner covered → length limits ≤ 32 → (k : ℕ) → k < length limits
      → get_or (each (energy_held seconds) (less_of all part)) k (kwh 0) ≡ lack_energy seconds inner covered (cut_at limits k)
  unfolding energy_held lack_energy
  lack-at covered e few k h =
      let place = in-sums seconds limits inner fits few k h in
      let c = cut_at limits k in
      each_in (energy_held seconds) (less_of all part) k 0 (kwh 0) (omega (arith, place, less-32 all part))
      ∙ rw (
        less-at all part k place,
        sum-at seconds limits inner fits few k h,
        sum-at seconds limits kept small few k h,
        short-parted c.low c.high inner covered,
        e,
      )

-- ---- the claims

-- energies that are, place by place, those of the contracts
pub record Cut-out (seconds : ℕ) (powers : Quantity → List ℕ) (limits : List ℕ) (setpoints actuals acceptances floors shortfalls : List Kwh) : Type 0 where
  pub setpoint : (k : ℕ) → k < length limits → get_or setpoints k (kwh 0) ≡ slice_energy seconds (powers Setpoint) (cut_at limits k)
  pub actual : (k : ℕ) → k < length limits → get_or actuals k (kwh 0) ≡ slice_energy seconds (powers Actual) (cut_at limits k)
  pub acceptance : (k : ℕ) → k < length limits → get_or acceptances k (kwh 0) ≡ slice_energy seconds (powers Acceptance) (cut_at limits k)
  pub floor : (k : ℕ) → k < length limits → get_or floors k (kwh 0) ≡ slice_energy seconds (powers Floor) (cut_at limits k)
  pub shortfall : (k : ℕ) → k < length limits → get_or shortfalls k (kwh 0) ≡ lack_energy seconds (powers Inner) (powers Covered) (cut_at limits k)

module _ (seconds : ℕ) (powers : Quantity → List ℕ) (limits : List ℕ) (count : ℕ) (setpoints actuals acceptances floors shortfalls : List Kwh)
    (many : length limits ≡ count) (stored : count ≤ length setpoints) (e : Cut-out seconds powers limits setpoints actuals acceptances floors shortfalls) where
  claim-at : (k : ℕ) → k < length limits → claim_at actuals acceptances floors shortfalls k (get_or setpoints k (kwh 0)) ≡ claim_of seconds powers (cut_at limits k)
  unfolding claim_at claim_of
  claim-at k h = rw (e.setpoint k h, e.actual k h, e.acceptance k h, e.floor k h, e.shortfall k h)

  pub joined-claims : joined_of actuals acceptances floors shortfalls (take count setpoints) ≡ each (claim_of seconds powers) (cuts_of limits)
  joined-claims = ext_get_or no_claim stored-claims (each (claim_of seconds powers) (cuts_of limits)) same_length same
    where
      stored-claims : List Claim
      stored-claims = joined_of actuals acceptances floors shortfalls (take count setpoints)

      here : length (take count setpoints) ≡ count
      here = length-take-le count setpoints stored

      long : length stored-claims ≡ count
      long = outputs-length next (claim_at actuals acceptances floors shortfalls) 0 (take count setpoints) ∙ here

      cuts : length (cuts_of limits) ≡ count
      cuts = outputs-length highest cut 0 limits ∙ many

      same_length : length stored-claims ≡ length (each (claim_of seconds powers) (cuts_of limits))
      same_length = long ∙ sym (each-length (claim_of seconds powers) (cuts_of limits) ∙ cuts)

      same : (k : ℕ) → k < length stored-claims
          → get_or stored-claims k no_claim ≡ get_or (each (claim_of seconds powers) (cuts_of limits)) k no_claim
      same k q =
          let h : k < length limits = omega (arith, long, many) in
          along (claim_at actuals acceptances floors shortfalls) 0 (take count setpoints) k (kwh 0) no_claim (omega (arith, here, many))
          ∙ rw (zero-add k, get_or-take count setpoints k (kwh 0) (omega (arith, many)), claim-at k h)
          (sym (cut-at (claim_of seconds powers) limits k no_claim h))
