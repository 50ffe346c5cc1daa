-- `settlement::run::Run::recalling` meets its contract.
-- Assumes nothing.
use mir.Syntax.{w32}
use mir.ValLaws.{to_z-of_z}
use Rattle.settlement.specs.Run.{with_setpoint}
use Rattle.settlement.proofs.run.Run.recalling.Goals as goal

pub returns : goal.returns
unfolding with_setpoint
returns c =
    rw (c.one_fewer-self.ensures, c.bounded-bounded.ensures.step, c.recalled-recalled.ensures.step, to_z-of_z w32 c.args.setpoint c.ranges.setpoint)
