-- `settlement::run::fresh` meets its contract.
-- Assumes nothing.
use Rattle.settlement.specs.Run.{fresh_run}
use Rattle.settlement.proofs.run.fresh.Goals as goal

pub returns : goal.returns
unfolding fresh_run
returns c = rw (c.new.ensures, c.new-2.ensures.step, c.no_load.ensures, c.no_tape.ensures, c.no_account.ensures)
