-- `claims::hour::energies_by` meets its contract.
-- Assumes nothing.
use Rattle.claims.specs.Views.{energy_held, energies_by}
use Rattle.claims.proofs.hour.energies_by.Goals as goal

pub returns : goal.returns
unfolding energies_by energy_held
returns c =
    rw (
      c.claims.ensures,
      c.rest.ensures,
      c.energy-2.ensures,
      c.whole-4.ensures,
      c.energy.ensures,
      c.whole-3.ensures,
      c.whole-2.ensures,
      c.whole.ensures,
    )
