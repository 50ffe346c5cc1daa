-- `settlement::run::no_account` meets its contract.
-- Assumes nothing.
use Rattle.records.specs.Account.{no_account}
use mathlib.Core.Path.{refl}
use Rattle.settlement.proofs.run.no_account.Goals as goal

pub returns : goal.returns
unfolding no_account
returns c = refl
