-- `figures::setpoint_at` meets its contract.
-- Assumes nothing.
use borrow.Author.Tests.{lt-ltb, le-ltb}
use mir.Syntax.{w32}
use mir.ValLaws.{to_z-of_z}
use Rattle.figures.specs.Jump.{setpoint_at}
use Rattle.figures.proofs.setpoint_at.Goals as goal

pub returns-then-second-lt100 : goal.returns-then-second-lt100
unfolding setpoint_at
returns-then-second-lt100 c = rw (lt-ltb c.args.second 100 c.if-second-lt100.true)

pub returns-else-second-lt100 : goal.returns-else-second-lt100
unfolding setpoint_at
returns-else-second-lt100 c =
    rw (to_z-of_z w32 c.args.kw c.ranges.kw, le-ltb c.args.second 100 c.if-second-lt100.false)
