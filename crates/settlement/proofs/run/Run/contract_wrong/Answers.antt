-- `settlement::run::Run::contract_wrong` meets its contract.
-- Assumes nothing.
use Rattle.std.proofs.Common.{sym, ◌∙◌}
use Rattle.settlement.specs.Run.{contract_wrong}
use Rattle.settlement.proofs.run.Run.contract_wrong.Goals as goal

pub returns-then-not-before_samples : goal.returns-then-not-before_samples
unfolding contract_wrong
returns-then-not-before_samples c = rw (sym c.before_samples.ensures ∙ c.if-not-before_samples.true)

pub returns : goal.returns
unfolding contract_wrong
returns c = rw (sym c.before_samples.ensures ∙ c.if-not-before_samples.false, c.refusal.ensures)
