-- `claims::hour::rest` meets its contract.
-- Assumes nothing.
use Rattle.claims.specs.Views.{energy_held, rest_by}
use Rattle.claims.proofs.hour.rest.Goals as goal

pub returns : goal.returns
unfolding rest_by energy_held
returns c = rw (c.energy-3.ensures, c.energy-2.ensures, c.energy.ensures)
