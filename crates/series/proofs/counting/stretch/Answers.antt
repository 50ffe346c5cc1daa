-- `series::counting::stretch` meets its contract. The loop keeps that the powers so far lie between the limits, and their sum above the lower one (Cuts).
-- Assumes nothing.
use Rattle.std.proofs.Common.{◌+◌, refl, arith}
use Rattle.series.proofs.Runs.{ran_first, ran-lifted}
use Rattle.series.proofs.counting.stretch.Goals as goal

pub loop-i-init : goal.loop-i-init
loop-i-init c = let a = c.args in (omega arith, ran_first a.low.0 a.high.0 a.powers.now (omega arith) (omega arith) (omega arith) (c.type_inv.powers 0).fits)

pub returns-then-passes : goal.returns-then-passes
returns-then-passes c =
    let a = c.args in
    let l = c.loop-i in
    (omega arith, ran-lifted a.low.0 a.high.0 a.powers.now l.sum l.i (l.i + 1) (omega arith) (omega arith) (omega arith) (c.type_inv.powers l.i).fits c.if-width-first.false refl l.invariant.1)

pub loop-i-preserved : goal.loop-i-preserved
loop-i-preserved c =
    let a = c.args in
    let l = c.loop-i in (
      omega arith,
      ran-lifted a.low.0 a.high.0 a.powers.now _ (l.i + 1) (l.i + 2) c.loop-i-test.true (omega arith) (omega arith) (c.type_inv.powers (l.i + 1)).fits c.if-passes.false (omega arith)
          (ran-lifted a.low.0 a.high.0 a.powers.now l.sum l.i (l.i + 1) (omega arith) (omega arith) (omega arith) (c.type_inv.powers l.i).fits c.if-width-first.false refl l.invariant.1),
    )
