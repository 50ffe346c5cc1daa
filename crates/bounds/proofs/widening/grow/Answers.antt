-- `bounds::widening::grow` meets its contract: two passes a turn, there and back.
-- Assumes nothing.
use Prim.Native.Nat.{◌+◌}
use native.Mathlib.Omega.{arith}
use Rattle.std.proofs.Common.{rules}
use Rattle.bounds.proofs.WindowLaws.{widens}
use Rattle.bounds.proofs.widening.grow.Goals as goal

pub loop-m-preserved : goal.loop-m-preserved
loop-m-preserved c =
    let a = c.args in
    let l = c.loop-m in
    let d = c.step-d.result in
    let e = c.step-e.result in (
      search rules,
      λ line r.
          widens a.side line _ _ (l.m + d) e a.len (omega arith) (omega arith)
          (widens a.side line _ _ l.m d a.len (omega arith) (omega arith) (l.invariant.1 line r) c.widen.ensures)
          c.widen-in-loop-m.ensures,
    )
