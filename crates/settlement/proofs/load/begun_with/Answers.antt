-- `settlement::load::begun_with` meets its contract.
-- Assumes nothing.
use Rattle.settlement.specs.Load.{begun_with}
use Rattle.settlement.proofs.load.begun_with.Goals as goal

pub returns : goal.returns
unfolding begun_with
returns c = rw c.windows.ensures
