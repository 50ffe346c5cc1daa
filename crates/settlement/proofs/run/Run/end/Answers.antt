-- `settlement::run::Run::end` meets its contract.
-- Assumes nothing.
use Rattle.settlement.specs.Run.{ended_of}
use Rattle.settlement.proofs.run.Run.end.Goals as goal

pub returns : goal.returns
unfolding ended_of
returns c = rw c.end_refusal.ensures
