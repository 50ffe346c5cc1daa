-- `claims::energies::energy_held` meets its contract. No sum has no energy.
-- Assumes nothing.
use Rattle.std.proofs.Common.{◌≡◌, ℕ, mul-zero}
use Rattle.arithmetic.specs.Whole.{least_of}
use Rattle.arithmetic.specs.Energy.{kwh, kwh_of, energy_of}
use Rattle.claims.specs.Views.{energy_held}
use Rattle.claims.proofs.energies.energy_held.Goals as goal

none : (seconds : ℕ) → kwh 0 ≡ energy_held seconds 0
unfolding energy_held energy_of kwh_of least_of
none seconds = rw (mul-zero seconds)

pub returns-then-sum-eq0 : goal.returns-then-sum-eq0
returns-then-sum-eq0 c = rw c.if-sum-eq0.true (none c.args.seconds)

pub returns : goal.returns
unfolding energy_held
returns c = c.energy.ensures
