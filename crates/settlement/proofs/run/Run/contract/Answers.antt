-- `settlement::run::Run::contract` meets its contract.
-- Assumes nothing.
use Rattle.vocabulary.proofs.RefusalLaws.{accepted-ok}
use Rattle.settlement.specs.Run.{contracted_of, contracted}
use Rattle.settlement.proofs.run.Run.contract.Goals as goal

pub returns-then-is_ok : goal.returns-then-is_ok
unfolding contracted_of contracted
returns-then-is_ok c =
    rw (← c.contract_refusal-refusal.ensures, accepted-ok c.contract_refusal-refusal.result, ← c.is_ok.ensures.value, c.if-is_ok.true, c.with-self.ensures)

pub returns-else-is_ok : goal.returns-else-is_ok
unfolding contracted_of
returns-else-is_ok c =
    rw (← c.contract_refusal-refusal.ensures, accepted-ok c.contract_refusal-refusal.result, ← c.is_ok.ensures.value, c.if-is_ok.false)
