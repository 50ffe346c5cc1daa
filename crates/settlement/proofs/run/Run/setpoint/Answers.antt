-- `settlement::run::Run::setpoint` meets its contract.
-- Assumes nothing.
use mir.Syntax.{w32}
use mir.ValLaws.{to_z-of_z}
use Rattle.vocabulary.proofs.RefusalLaws.{accepted-err}
use Rattle.settlement.specs.Run.{setpoint_ground, with_setpoint_of}
use Rattle.settlement.proofs.run.Run.setpoint.Goals as goal

pub returns-then-is_err : goal.returns-then-is_err
unfolding setpoint_ground with_setpoint_of
returns-then-is_err c =
    let s = to_z-of_z w32 c.args.setpoint c.ranges.setpoint in
    let e = rw (s, c.is_untouched.ensures) at c.setpoint_refusal-refusal.ensures in
    rw (← e, accepted-err c.setpoint_refusal-refusal.result, ← c.is_err.ensures.value, c.if-is_err.true)

pub returns : goal.returns
unfolding setpoint_ground with_setpoint_of
returns c =
    let s = to_z-of_z w32 c.args.setpoint c.ranges.setpoint in
    let e = rw (s, c.is_untouched.ensures) at c.setpoint_refusal-refusal.ensures in
    rw (← e, accepted-err c.setpoint_refusal-refusal.result, ← c.is_err.ensures.value, c.if-is_err.false, c.recalling.ensures, s)
