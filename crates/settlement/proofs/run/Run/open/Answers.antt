-- `settlement::run::Run::open` meets its contract.
-- Assumes nothing.
use Rattle.std.proofs.Common.{rules}
use Rattle.settlement.specs.Run.{opened_of}
use Rattle.settlement.proofs.run.Run.open.Goals as goal

pub returns-in_err-open_refusal : goal.returns-in_err-open_refusal
unfolding opened_of
returns-in_err-open_refusal c = rw (← c.open_refusal.ensures, c.in_err-open_refusal.was) (search rules)

pub returns : goal.returns
unfolding opened_of
returns c = rw (← c.open_refusal.ensures, c.in_ok-open_refusal.was, c.run_of.ensures)
