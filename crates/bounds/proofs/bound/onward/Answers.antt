-- `bounds::bound::onward` meets its contract: what can be moved has a value one gradient inward, and what comes of it does not lie inside a setpoint, so it
-- can be moved again.
-- Assumes nothing.
use Rattle.std.proofs.Common.{rules}
use mathlib.Core.Path.{refl}
use mir.Syntax.{w32, w64}
use mir.Val.{SFits}
use mir.ValLaws.{to_z-of_z}
use Rattle.arithmetic.proofs.Signed.{back}
use Rattle.bounds.proofs.Moving.{inward-fits, onward-movable}
use Rattle.bounds.proofs.bound.onward.Goals as goal

pub inward-requires : goal.inward-requires
inward-requires c =
    let a = c.args in
    rw (to_z-of_z w64 a.held c.ranges.held, to_z-of_z w64 a.gradient c.ranges.gradient)
    (inward-fits a.side a.held a.gradient c.ranges.held c.requires.0.0 c.requires.0.1 c.requires.1)

pub returns : goal.returns
returns c =
    let a = c.args in
    let i = c.inward in
    let u = c.in_units in
    let units_fit : SFits w64 u.result.0 = search rules in
    rw (
      back c.farther.type_inv,
      c.farther.ensures,
      to_z-of_z w64 u.result.0 units_fit,
      u.ensures,
      back {z = i.result} i.type_inv,
      i.ensures,
      to_z-of_z w32 a.near c.ranges.near,
      to_z-of_z w64 a.held c.ranges.held,
      to_z-of_z w64 a.gradient c.ranges.gradient,
    ) (refl, onward-movable a.side a.near a.held a.gradient c.ranges.near)
