-- `settlement::plan::plan_of` meets its contract.
-- Assumes nothing.
use Rattle.std.proofs.Common.{rules}
use Rattle.settlement.specs.Plan.{plan_of}
use Rattle.settlement.proofs.plan.plan_of.Goals as goal

pub returns : goal.returns
unfolding plan_of
returns c = rw c.count_of.ensures (search rules)
