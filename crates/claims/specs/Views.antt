-- A quarter hour as the code goes through it: what a direction sees of each sample, the sums over it, and the energies by them. That these are the energies
-- in the words of the rules is a law (proofs/Portions).
use Rattle.std.specs.Prelude.{ℕ, ◌+◌, ◌-◌, ◌*◌, ◌%◌, ◌^◌, Bool, cond, ◌&&◌, ◌||◌, List, [], ◌∷◌, ◌++◌, take, drop, ℤ, pos, ◌==◌, nat_lt, slice_index, slice_index_or}
use Rattle.arithmetic.specs.Whole.{up, down}
use Rattle.arithmetic.specs.Energy.{kwh, energy_of}
use Rattle.arithmetic.specs.declared.energy.Kwh.{Kwh}
use Rattle.series.specs.Scan.{outputs, each}
use Rattle.series.specs.Sums.{sum_of}
use Rattle.series.specs.Cuts.{pieces_of}
use Rattle.series.specs.declared.cutting.Pieces.{Pieces}
use Rattle.channel.specs.declared.Channel.{Channel}
use Rattle.vocabulary.specs.declared.direction.Direction.{Direction}
use Rattle.vocabulary.specs.declared.direction.Direction.TheVariants.{Positive, Negative}
use Rattle.values.specs.declared.value.Quantity.{Quantity}
use Rattle.values.specs.declared.value.Quantity.TheVariants.{Setpoint, Actual, Acceptance, Surplus, UnderDelivery, Inner, Floor, Covered, Kept}
use Rattle.values.specs.declared.part.Part.{Part}
use Rattle.values.specs.Part.{part_of, amount_of}
use Rattle.contracts.specs.declared.terms.Terms.{Terms}
use Rattle.claims.specs.declared.claim.Claim.{Claim}
use Rattle.claims.specs.declared.claim.Rest.{Rest}
use Rattle.claims.specs.declared.view.Amounts.{Amounts}
use Rattle.claims.specs.declared.view.Seen.{Seen}
use Rattle.claims.specs.declared.energies.Sums.{Sums}
use Rattle.claims.specs.declared.hour.Energies.{Energies}
use Rattle.claims.specs.declared.hour.Measured.{Measured}
use Rattle.claims.specs.Blank.{no_claims}
use Rattle.claims.specs.Powers.{Samples, samples, next, powers_of}
use Rattle.claims.specs.Claims.{claim_from, energies_of}

-- ---- what a direction sees

-- the part of a sample that a direction sees
abbrev pub part_at : Direction → Samples → ℕ → ℤ → Part
part_at d x i s = part_of d s (slice_index_or x.actuals i (pos 0)) (slice_index_or x.ogas i (pos 0)) (slice_index_or x.ugas i (pos 0))

-- that of each sample
abbrev pub parts_of : Direction → Samples → List Part
parts_of d x = outputs next (part_at d x) 0 x.setpoints

-- what of an actual power a direction sees, in units
abbrev pub delivered_of : Direction → ℤ → ℕ
delivered_of Positive actual = up actual * 5400
delivered_of Negative actual = down actual * 5400

-- neither setpoint nor inner bound is on a part, and nothing is accepted, as the channel does not reach it or nothing is delivered: then each of its
-- quantities but the actual is 0 (proofs/Viewing)
unfoldable pub idle_of : Part → Bool
idle_of p = p.setpoint == 0 && ((p.outer.0 == 0 || p.actual == 0) && p.inner.0 == 0)

-- the other parts
unfoldable pub busy_of : List Part → List Part
busy_of [] = []
busy_of (p ∷ ps) = cond (idle_of p) (busy_of ps) (p ∷ busy_of ps)

-- 1 where what is covered falls short of the inner bound
abbrev pub falls_of : ℕ → ℕ → ℕ
falls_of covered inner = cond (nat_lt covered inner) 1 0

-- the parts on which it does, and so what is kept: on the others both have the same slices, and nothing is short (proofs/Shortfalls)
unfoldable pub shorts_of : List Part → List Part
shorts_of [] = []
shorts_of (p ∷ ps) = cond (nat_lt (amount_of Kept p) (amount_of Inner p)) (p ∷ shorts_of ps) (shorts_of ps)

unfoldable pub amounts_of : Part → Amounts
amounts_of p =
    record {
      setpoint = amount_of Setpoint p;
      acceptance = amount_of Acceptance p;
      surplus = amount_of Surplus p;
      under_delivery = amount_of UnderDelivery p;
      inner = amount_of Inner p;
      floor = amount_of Floor p;
      covered = amount_of Covered p;
    }

-- ---- the sums

-- what sums have above others; - stops at 0
unfoldable pub less_at : List ℕ → ℕ → ℕ → ℕ
less_at others k sum = sum - slice_index others k

abbrev pub less_of : List ℕ → List ℕ → List ℕ
less_of sums others = outputs next (less_at others) 0 sums

abbrev pub short_of : Pieces → Pieces → Pieces
short_of all part = record { sums = less_of all.sums part.sums; rest = all.rest - part.rest }

-- what is summed over a quarter hour, as 64 bits hold it; short of the inner bound is what its pieces have above those of what is kept
unfoldable pub sums_of : (Quantity → List ℕ) → List ℕ → Sums
sums_of powers limits =
    record {
      setpoint = pieces_of limits (powers Setpoint);
      actual = pieces_of limits (powers Actual);
      acceptance = pieces_of limits (powers Acceptance);
      floor = pieces_of limits (powers Floor);
      shortfall = short_of (pieces_of limits (powers Inner)) (pieces_of limits (powers Kept));
      surplus = sum_of (powers Surplus) % 2 ^ 64;
      under_delivery = sum_of (powers UnderDelivery) % 2 ^ 64;
    }

-- the same by the actuals, and by what was written down of the samples
unfoldable pub sums_by : Direction → List ℕ → Seen → List ℤ → List ℕ → List ℕ → List ℕ → List ℕ → List ℕ → Sums
sums_by d limits seen actuals asked accepted required inner kept =
    let of : ℕ → List ℕ → Pieces = λ n series. pieces_of limits (take n series) in
    record {
      setpoint = of seen.count asked;
      actual = pieces_of limits (each (delivered_of d) actuals);
      acceptance = of seen.count accepted;
      floor = of seen.count required;
      shortfall = short_of (of seen.short inner) (of seen.short kept);
      surplus = seen.surplus;
      under_delivery = seen.under_delivery;
    }

-- the slices and the rest together
abbrev pub whole_of : Pieces → ℕ
whole_of p = sum_of p.sums + p.rest

-- ---- the energies

-- the energy of a sum
unfoldable pub energy_held : ℕ → ℕ → Kwh
energy_held seconds sum = energy_of (seconds * sum)

-- the claims by energies that are listed by place
unfoldable pub claim_at : List Kwh → List Kwh → List Kwh → List Kwh → ℕ → Kwh → Claim
claim_at actuals acceptances floors shortfalls k setpoint =
    claim_from setpoint (slice_index_or actuals k (kwh 0)) (slice_index_or acceptances k (kwh 0)) (slice_index_or floors k (kwh 0)) (slice_index_or shortfalls k (kwh 0))

abbrev pub joined_of : List Kwh → List Kwh → List Kwh → List Kwh → List Kwh → List Claim
joined_of actuals acceptances floors shortfalls = outputs next (claim_at actuals acceptances floors shortfalls) 0

-- what the first contracts claim by the sums of a direction, what no contract takes, and the energies of the direction
unfoldable pub claims_by : ℕ → Sums → ℕ → List Claim
claims_by seconds s count =
    let of : Pieces → List Kwh = λ p. each (energy_held seconds) p.sums in
    joined_of (of s.actual) (of s.acceptance) (of s.floor) (of s.shortfall) (take count (of s.setpoint)) ++ drop count no_claims

unfoldable pub rest_by : ℕ → Sums → Rest
rest_by seconds s =
    record {
      setpoint = energy_held seconds s.setpoint.rest;
      actual = energy_held seconds s.actual.rest;
      acceptance = energy_held seconds s.acceptance.rest;
    }

unfoldable pub energies_by : ℕ → Sums → ℕ → Energies
energies_by seconds s count =
    record {
      setpoint = energy_held seconds (whole_of s.setpoint);
      actual = energy_held seconds (whole_of s.actual);
      acceptance = energy_held seconds (whole_of s.acceptance);
      surplus = energy_held seconds s.surplus;
      shortfall = energy_held seconds (whole_of s.shortfall);
      under_delivery = energy_held seconds s.under_delivery;
      rest = rest_by seconds s;
      claims = claims_by seconds s count;
    }

-- ---- both directions

-- the samples at the start of two arrays, with the bounds of a track
abbrev pub samples_in : List ℤ → List ℤ → ℕ → List ℤ → List ℤ → Samples
samples_in ogas ugas n ss vs = samples (take n ss) (take n vs) (take n ogas) (take n ugas)

-- the energies of samples, and the channel after them
abbrev pub measured_in : Channel → ℕ → Samples → List Terms → List Terms → Measured
measured_in after seconds x positive negative =
    record {
      channel = after;
      positive = energies_of seconds (powers_of Positive x) positive;
      negative = energies_of seconds (powers_of Negative x) negative;
    }
