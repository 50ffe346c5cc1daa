-- `settlement::run::Run::unopened` meets its contract.
-- Assumes nothing.
use Rattle.settlement.specs.Run.{no_run}
use Rattle.settlement.proofs.run.Run.unopened.Goals as goal

pub returns : goal.returns
unfolding no_run
returns c = c.fresh.ensures
