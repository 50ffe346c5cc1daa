-- `settlement::load::no_load` meets its contract.
-- Assumes nothing.
use mathlib.Core.Path.{refl}
use Rattle.settlement.specs.Load.{no_load}
use Rattle.settlement.proofs.load.no_load.Goals as goal

pub returns : goal.returns
unfolding no_load
returns c = refl
