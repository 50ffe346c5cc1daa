-- `bounds::widening::widen` meets its contract.
-- Assumes nothing.
use mathlib.Core.Path.{◌≡◌}
use Prim.Native.Nat.{◌+◌, ◌-◌}
use native.Mathlib.Omega.{arith}
use lib.IntN.{pos}
use lib.ListN.{get_or}
use mir.Syntax.{w32}
use mir.Val.{to_z, of_z}
use mir.ValLaws.{to_z-of_z}
use Rattle.std.proofs.Common.{rules}
use Rattle.arithmetic.proofs.Signed.{back32}
use Rattle.bounds.specs.Widening.{either_at}
use Rattle.series.proofs.Filling.{fills-more}
use Rattle.bounds.proofs.widening.widen.Goals as goal

pub loop-i-preserved : goal.loop-i-preserved
unfolding either_at
loop-i-preserved c =
    let a = c.args in
    let l = c.loop-i in
    let e : to_z w32 (of_z w32 c.outer.result) ≡ either_at a.side a.a.now a.d l.i =
    rw (back32 {z = c.outer.result} c.outer.type_inv, c.outer.ensures, to_z-of_z w32 (get_or a.a.now l.i (pos 0)) (search rules), to_z-of_z w32 (get_or a.a.now (l.i - a.d) (pos 0)) (search rules)) in
    fills-more (either_at a.side a.a.now a.d) (a.w + a.d - 1) l.i l.b _ (omega arith) e l.invariant
