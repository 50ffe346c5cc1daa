-- `samples::front_at` meets its contract: S, a tab and a setpoint, or it is no sample in range. Assumes nothing.
use Rattle.std.proofs.Common.{refl, arith}
use Rattle.samples.proofs.FrontScan.{other-letter, letter-and-tab, past-letter, no-setpoint, a-front, same-front}
use Rattle.samples.proofs.PowerForm.{range_back}
use Rattle.samples.proofs.front_at.Goals as goal

pub returns-then-two_at-ne-LETTER : goal.returns-then-two_at-ne-LETTER
returns-then-two_at-ne-LETTER c = other-letter c.two_at.ensures c.if-two_at-ne-LETTER.true

pub same_setpoint-requires-clause-ended : goal.same_setpoint-requires-clause-ended
same_setpoint-requires-clause-ended c = past-letter c.requires.ended (rw c.if-two_at-ne-LETTER.false at c.two_at.ensures)

pub returns-then-same_setpoint : goal.returns-then-same_setpoint
returns-then-same_setpoint c =
    let p = letter-and-tab (rw c.if-two_at-ne-LETTER.false at c.two_at.ensures) in
    let h = c.same_setpoint.ensures in
    let e = c.if-same_setpoint.true in
    rw (range_back _ (h.field e).ranged) (same-front p.0 p.1 c.requires.kept.earlier (h.wide e) (h.width e) (h.few e) (h.field e))

pub setpoint_at-requires : goal.setpoint_at-requires
setpoint_at-requires c = past-letter c.requires.ended (rw c.if-two_at-ne-LETTER.false at c.two_at.ensures)

pub returns-in_err-setpoint : goal.returns-in_err-setpoint
returns-in_err-setpoint c = rw c.from_residual.ensures (no-setpoint c.in_err-setpoint.ensures)

pub width_of-requires : goal.width_of-requires
width_of-requires c = omega (arith, (c.in_ok-setpoint.ensures.sound _ refl).place)

pub returns : goal.returns
returns c =
    let p = letter-and-tab (rw c.if-two_at-ne-LETTER.false at c.two_at.ensures) in
    let f = c.in_ok-setpoint.ensures in
    rw (range_back _ (f.sound _ refl).ranged) (a-front p.0 p.1 f c.width_of.ensures)
