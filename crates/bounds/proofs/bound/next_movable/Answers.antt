-- `bounds::bound::next_movable` meets its contract: one gradient, and one rule for both sides.
-- Assumes nothing.
use Rattle.std.proofs.Common.{rules}
use mir.Syntax.{w32, w64}
use mir.ValLaws.{to_z-of_z}
use Rattle.arithmetic.proofs.Signed.{back}
use Rattle.bounds.specs.Side.{next_of}
use Rattle.bounds.proofs.bound.next_movable.Goals as goal

pub returns : goal.returns
unfolding next_of
returns c =
    let a = c.args in
    let high = to_z-of_z w32 a.seen.highest (search rules) in
    let low = to_z-of_z w32 a.seen.lowest (search rules) in
    let most = to_z-of_z w32 a.seen.most (search rules) in
    let least = to_z-of_z w32 a.seen.least (search rules) in
    let oga = to_z-of_z w64 a.held.oga.0 (search rules) in
    let uga = to_z-of_z w64 a.held.uga.0 (search rules) in
    let o = c.onward-above in
    let u = c.onward-below in
    let g = c.climb-gradient in
    rw (back {z = o.result} o.type_inv, back {z = u.result} u.type_inv) (
      rw (o.ensures.0, u.ensures.0) (rw (back {z = g.result} g.type_inv, g.ensures.0, high, low, most, least, oga, uga)),
      record { above = o.ensures.1; below = u.ensures.1 },
    )
