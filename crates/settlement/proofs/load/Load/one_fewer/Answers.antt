-- `settlement::load::Load::one_fewer` meets its contract.
-- Assumes nothing.
use Rattle.settlement.specs.Load.{one_fewer}
use Rattle.settlement.proofs.load.Load.one_fewer.Goals as goal

pub returns : goal.returns
unfolding one_fewer
returns c = rw c.saturating_sub.ensures
