-- `settlement::plan::interval_of` meets its contract.
-- Assumes nothing.
use Rattle.std.proofs.Common.{arith}
use borrow.Author.Tests.{ne_eqb}
use Rattle.settlement.specs.Calls.{interval_of}
use Rattle.settlement.proofs.plan.interval_of.Goals as goal

pub returns-in-1 : goal.returns-in-1
unfolding interval_of
returns-in-1 c = rw c.in-1.is

pub returns-in-3 : goal.returns-in-3
unfolding interval_of
returns-in-3 c = rw c.in-3.is

pub returns-in_default : goal.returns-in_default
unfolding interval_of
returns-in_default c = rw (ne_eqb c.args.seconds 1 (λ e. omega arith), ne_eqb c.args.seconds 3 (λ e. omega arith))
