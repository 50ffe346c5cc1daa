-- `claims::energies::whole` meets its contract.
-- Assumes nothing.
use Rattle.claims.specs.Views.{energy_held}
use Rattle.claims.proofs.energies.whole.Goals as goal

pub returns : goal.returns
unfolding energy_held
returns c = rw (c.energy.ensures, c.total.ensures)
