-- `settlement::run::Run::contract_refusal` meets its contract.
-- Assumes nothing.
use Rattle.std.proofs.Common.{rules}
use Rattle.settlement.specs.Run.{contract_ground}
use Rattle.settlement.proofs.Many.{lacking-err}
use Rattle.settlement.proofs.run.Run.contract_refusal.Goals as goal

pub returns-in_err-contract_wrong : goal.returns-in_err-contract_wrong
unfolding contract_ground
returns-in_err-contract_wrong c =
    rw (← c.contract_wrong.ensures, c.in_err-contract_wrong.was, lacking-err c.args.self.load _) (search rules)

pub returns : goal.returns
unfolding contract_ground
returns c = rw (← c.contract_wrong.ensures, c.in_ok-contract_wrong.was) c.lacking_refusal.ensures
