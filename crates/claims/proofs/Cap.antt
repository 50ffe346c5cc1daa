-- A contract's cap is never below 0, for any samples and bounds: UGT⁺ is at most setpoint⁺ in every sample, and slicing and rounding keep order.
-- Assumes nothing.
use Rattle.std.proofs.Common.{◌≡◌, ℕ, ◌+◌, ◌*◌, ◌≤◌, List, [], ◌∷◌, ℤ, mul-le-mul_left, arith}
use Rattle.arithmetic.specs.Whole.{least_of}
use Rattle.arithmetic.specs.Energy.{kwh_of, energy_of}
use Rattle.series.specs.Scan.{outputs}
use Rattle.series.proofs.Order.{Below, none, more, sliced-mono}
use Rattle.vocabulary.specs.declared.direction.Direction.{Direction}
use Rattle.arithmetic.specs.declared.energy.Kwh.{Kwh}
use Rattle.values.specs.declared.value.Quantity.{Quantity}
use Rattle.values.specs.declared.value.Quantity.TheVariants.{Setpoint, Acceptance, Floor}
use Rattle.values.proofs.Small.{floor-under}
use Rattle.claims.specs.Powers.{Samples, next, power_at, powers_of}
use Rattle.claims.specs.Views.{part_at}
use Rattle.claims.specs.Claims.{slice_energy, under_of, cap_of}
use Rattle.claims.proofs.PowerLaws.{power-is}
use Rattle.series.specs.Cuts.{Cut}

-- the tolerance asks for no more than the setpoint, sample by sample
below : (d : Direction) (x : Samples) (i : ℕ) (ss : List ℤ) → Below (outputs next (power_at d x Floor) i ss) (outputs next (power_at d x Setpoint) i ss)
unfolding outputs
below d x i [] = none
below d x i (s ∷ ss) =
    let here : power_at d x Floor i s ≤ power_at d x Setpoint i s = rw (power-is d x Floor i s, power-is d x Setpoint i s) (floor-under (part_at d x i s)) in
    more here (below d x (i + 1) ss)

energy-mono : (seconds : ℕ) {a b : ℕ} → a ≤ b → (energy_of (seconds * a)).0 ≤ (energy_of (seconds * b)).0
unfolding energy_of kwh_of least_of
energy-mono seconds h = let e = mul-le-mul_left seconds h in omega arith

module _ (d : Direction) (x : Samples) (seconds : ℕ) (c : Cut) where
  pub floor-at-most : (slice_energy seconds (powers_of d x Floor) c).0 ≤ (slice_energy seconds (powers_of d x Setpoint) c).0
  unfolding slice_energy
  floor-at-most = energy-mono seconds (sliced-mono c.low c.high (below d x 0 x.setpoints))

  abbrev of : Quantity → Kwh
  of q = slice_energy seconds (powers_of d x q) c

  -- so the cap is setpoint − under-delivery with no stop at 0
  pub cap-holds : under_of (of Floor) (of Acceptance) ≤ (of Setpoint).0
  unfolding under_of
  cap-holds = omega (arith, floor-at-most)

  pub cap-whole : cap_of (of Setpoint) (of Acceptance) (of Floor) + under_of (of Floor) (of Acceptance) ≡ (of Setpoint).0
  unfolding cap_of
  cap-whole = omega (arith, cap-holds)
