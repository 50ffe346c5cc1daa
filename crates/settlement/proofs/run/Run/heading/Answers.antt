-- `settlement::run::Run::heading` meets its contract.
-- Assumes nothing.
use Rattle.settlement.specs.Run.{heading_of}
use Rattle.settlement.proofs.run.Run.heading.Goals as goal

pub returns : goal.returns
unfolding heading_of
returns c = rw (c.interval.ensures, c.lot.ensures)
