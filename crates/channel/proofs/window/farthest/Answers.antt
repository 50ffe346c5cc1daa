-- `channel::window::farthest` meets its contract: what is found so far is the farthest out of the samples passed, and one of them.
-- Assumes nothing.
use native.Mathlib.Omega.{arith}
use Rattle.std.proofs.Common.{rules}
use mathlib.Core.Path.{◌≡◌, sym, ◌∙◌}
use Prim.Native.Nat.{◌+◌, ◌-◌}
use mir.Syntax.{w32, w64}
use mir.Val.{to_z, of_z, SFits}
use mir.ValLaws.{to_z-of_z}
use Rattle.arithmetic.proofs.Signed.{back}
use Rattle.bounds.specs.Side.{farther_of}
use Rattle.channel.specs.State.{back_in}
use Rattle.bounds.proofs.Scan.{widened, over-one, over-more}
use Rattle.bounds.proofs.Sides.{farther-ind}
use Rattle.channel.proofs.window.farthest.Goals as goal

pub loop-k-init : goal.loop-k-init
unfolding back_in
loop-k-init c =
    let a = c.args in
    let x : SFits w32 (back_in a.ring a.newest a.from) = search rules in
    let e : to_z w64 (of_z w64 c.from-found.result) ≡ back_in a.ring a.newest a.from = rw c.from-found.ensures (widened x) in
    let none : a.from + 1 - 1 - a.from ≡ a.from - a.from = omega arith in
    (e ∙ rw none (sym (over-one (farther_of a.side) (back_in a.ring a.newest) a.from)), rw e x)

pub loop-k-preserved : goal.loop-k-preserved
unfolding back_in
loop-k-preserved c =
    let a = c.args in
    let l = c.loop-k in
    let f = back_in a.ring a.newest in
    let x : SFits w32 (back_in a.ring a.newest l.k) = search rules in
    let e : to_z w64 (of_z w64 c.farther-found.result) ≡ farther_of a.side (to_z w64 l.found-bits) (back_in a.ring a.newest l.k) =
    back c.farther-found.type_inv ∙ c.farther-found.ensures ∙ rw c.from-here.ensures (rw (widened x)) in
    let here : l.k - 1 + 1 ≡ l.k = omega arith in
    let next : l.k + 1 - 1 - a.from ≡ l.k - a.from = omega arith in
    let more = rw here at (over-more (farther_of a.side) f a.from (l.k - 1) (omega arith)) in
    (e ∙ rw (l.invariant.0, next) (sym more), rw e (farther-ind (SFits w32) a.side _ _ l.invariant.1 x))

pub overflow_cast-result : goal.overflow_cast-result
overflow_cast-result c = c.loop-k.invariant.1

pub returns : goal.returns
returns c =
    let l = c.loop-k in
    let e : l.k - 1 ≡ c.args.to = omega arith in
    to_z-of_z w32 (to_z w64 l.found-bits) l.invariant.1 ∙ l.invariant.0 ∙ rw e
