-- Bounds that can be moved by a gradient: a bound so moved fits 64 bits, the next bounds can be moved again, and bounds that are brought out to
-- where that begins are followed by the same ones, since no setpoint lies farther in.
-- Assumes nothing.
use mathlib.Core.Path.{◌≡◌}
use Prim.Native.Nat.{ℕ, ◌^◌, ◌<◌}
use native.Mathlib.Omega.{arith}
use lib.IntN.{ℤ, pos, neg_ℤ, ◌-ℤ◌, ◌+ℤ◌}
use mir.Syntax.{w32, w64}
use mir.Val.{SFits}
use Rattle.arithmetic.specs.Whole.{up, down}
use Rattle.arithmetic.specs.Power.{units_of}
use Rattle.arithmetic.proofs.Signed.{add-law, sub-lawℤ, up_neg, down-neg, up_pos, down_pos, fits-of, fits-up, fits-down}
use Rattle.vocabulary.specs.declared.interval.Interval.{Interval}
use Rattle.vocabulary.specs.declared.acceptance.Bounds.{Bounds}
use Rattle.vocabulary.specs.Interval.{windows_of}
use Rattle.bounds.specs.declared.side.Side.{Side}
use Rattle.bounds.specs.declared.side.Side.TheVariants.{Upper, Lower}
use Rattle.bounds.specs.declared.bound.Seen.{Seen}
use Rattle.bounds.specs.Side.{farther_of, inward_of, onward_of, next_of}
use Rattle.bounds.specs.Movable.{Movable, MovableBounds, innermost_of, movable_of}
use Rattle.bounds.proofs.Sides.{farther-ind}
use Rattle.bounds.proofs.Outside.{Outside, outside-self, outside_trans, outside-both, farther-outside, farther-outside-second, farther-least}
use Rattle.bounds.proofs.Range.{units-within, gradient-down}

pub inward-fits : (side : Side) (held gradient : ℤ) → SFits w64 held → down gradient ≡ 0 → up gradient < 2 ^ 40 → Movable side held → SFits w64 (inward_of side held gradient)
inward-fits Upper held g f z u m =
    fits-of w64 (held -ℤ g) (omega (arith, sub-lawℤ held g, fits-up w64 held f)) (omega (arith, sub-lawℤ held g))
inward-fits Lower held g f z u m =
    fits-of w64 (held +ℤ g) (omega (arith, add-law held g)) (omega (arith, add-law held g, fits-down w64 held f))

-- what does not lie inside a setpoint, or where that begins, can be moved
outside-movable : (side : Side) (near bound : ℤ) → SFits w32 near → Outside side bound (units_of near) → Movable side bound
outside-movable Upper near bound f o = omega (arith, units-within f)
outside-movable Lower near bound f o = omega (arith, units-within f)

innermost-movable : (side : Side) (bound : ℤ) → Outside side bound (innermost_of side) → Movable side bound
innermost-movable Upper bound o = omega (arith, up_neg (pos (2 ^ 44)), down-neg (pos (2 ^ 44)), up_pos (2 ^ 44), down_pos (2 ^ 44))
innermost-movable Lower bound o = omega (arith, up_pos (2 ^ 44), down_pos (2 ^ 44))

pub onward-movable : (side : Side) (near held gradient : ℤ) → SFits w32 near → Movable side (onward_of side near held gradient)
onward-movable side near held g f =
    outside-movable side near (onward_of side near held g) f (farther-outside side (units_of near) (inward_of side held g))

-- bounds that are brought out to there can be moved
pub brought-out-movable : (held : Bounds) → MovableBounds (movable_of held)
unfolding movable_of
brought-out-movable held =
    record {
      above = innermost-movable Upper _ (farther-outside-second Upper held.oga.0 (innermost_of Upper));
      below = innermost-movable Lower _ (farther-outside-second Lower held.uga.0 (innermost_of Lower));
    }

-- ---- and are followed by the same ones

-- of two bounds the outer one stays the outer one
inward-outside : (side : Side) (a b gradient : ℤ) → Outside side a b → Outside side (inward_of side a gradient) (inward_of side b gradient)
inward-outside Upper a b g o = omega (arith, sub-lawℤ a g, sub-lawℤ b g)
inward-outside Lower a b g o = omega (arith, add-law a g, add-law b g)

-- no setpoint lies inside a bound that is moved in from there
setpoint-outside : (side : Side) (near gradient : ℤ) → SFits w32 near → down gradient ≡ 0 → Outside side (units_of near) (inward_of side (innermost_of side) gradient)
setpoint-outside Upper near g f z =
    omega (arith, units-within f, sub-lawℤ (neg_ℤ (pos (2 ^ 44))) g, up_neg (pos (2 ^ 44)), down-neg (pos (2 ^ 44)), up_pos (2 ^ 44), down_pos (2 ^ 44))
setpoint-outside Lower near g f z =
    omega (arith, units-within f, add-law (pos (2 ^ 44)) g, up_pos (2 ^ 44), down_pos (2 ^ 44))

module _ (side : Side) (near held gradient : ℤ) (f : SFits w32 near) (z : down gradient ≡ 0) where
  onward-same : onward_of side near (farther_of side held (innermost_of side)) gradient ≡ onward_of side near held gradient
  onward-same =
      let edge = innermost_of side in
      let n = units_of near in
      let x = onward_of side near (farther_of side held edge) gradient in
      let y = onward_of side near held gradient in
      let out = inward_of side (farther_of side held edge) gradient in
      let in-edge = inward_of side edge gradient in
      let y-near = farther-outside side n (inward_of side held gradient) in
      outside-both side x y
      (farther-least side x n (inward_of side held gradient) (farther-outside side n out)
      (outside_trans side x out (inward_of side held gradient) (farther-outside-second side n out)
      (inward-outside side (farther_of side held edge) held gradient (farther-outside side held edge))))
      (farther-ind (λ b. Outside side y (onward_of side near b gradient)) side held edge (outside-self side y)
      (farther-least side y n in-edge y-near (outside_trans side y n in-edge y-near (setpoint-outside side near gradient f z))))

pub brought-out-next : (i : Interval) (lot : ℕ) (seen : Seen) (held : Bounds) → SFits w32 seen.highest → SFits w32 seen.lowest
    → next_of i lot seen (movable_of held) ≡ next_of i lot seen held
unfolding next_of movable_of
brought-out-next i lot seen held high low =
    let z = gradient-down lot (windows_of i).seconds (seen.most -ℤ seen.least) in
    rw (onward-same Upper seen.highest held.oga.0 _ high z, onward-same Lower seen.lowest held.uga.0 _ low z)
