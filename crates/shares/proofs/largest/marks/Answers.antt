-- `shares::largest::marks` meets its contract. The marks still to be set are those of the remainders left.
-- Assumes nothing.
use native.Mathlib.Omega.{arith}
use mathlib.Core.Path.{◌≡◌}
use Prim.Native.Nat.{suc, ◌+◌, ◌-◌}
use Rattle.shares.specs.Largest.{marked, marks_of}
use Rattle.shares.proofs.largest.marks.Goals as goal

pub loop-preserved : goal.loop-preserved
unfolding marked
loop-preserved c =
    let l = c.loop in
    let m = c.args.missing in
    let e : m - l.counter ≡ suc (m - (l.counter + 1)) = omega arith in
    (omega arith, rw c.pick-k.ensures.0 (rw e at l.invariant.1))

pub returns : goal.returns
unfolding marks_of marked
returns c =
    let l = c.loop in
    let e : c.args.missing - l.counter ≡ 0 = omega arith in
    rw e at l.invariant.1
