-- `channel::tolerance::tolerated` meets its contract: an arm for each side.
-- Assumes nothing.
use Rattle.std.proofs.Common.{arith, rules}
use Rattle.std.proofs.lemmas.Int.{ints, clamps}
use Rattle.std.specs.Int.{int_max, int_min}
use mathlib.Core.Path.{◌≡◌, refl}
use mathlib.Core.Bool.{Bool, true, false, cond}
use lib.IntN.{ℤ, pos, ◌*ℤ◌}
use lib.Signed.{le_z}
use mir.Syntax.{w32, w64}
use mir.Val.{SFits}
use mir.ValLaws.{to_z-of_z}
use Rattle.arithmetic.specs.Whole.{max_z, min_z}
use Rattle.arithmetic.proofs.Signed.{back}
use Rattle.channel.specs.Tolerance.{five_percent_more, five_percent_less, ogt_of, ugt_of}
use Rattle.channel.proofs.tolerance.tolerated.Goals as goal

-- std's words are those of the definitions
max-is : (a b : ℤ) → int_max a b ≡ max_z a b
unfolding max_z
max-is a b = omega (arith, ints, clamps)

min-is : (a b : ℤ) → int_min a b ≡ min_z a b
unfolding min_z
min-is a b = refl

-- choosing first, or last, is the same
chosen : (op : ℤ → ℤ → ℤ) (t : Bool) (a b x : ℤ) → op (cond t a b) x ≡ cond t (op a x) (op b x)
chosen op true a b x = refl
chosen op false a b x = refl

pub returns-in-Upper : goal.returns-in-Upper
unfolding ogt_of five_percent_more five_percent_less
returns-in-Upper c =
    let kw = c.args.setpoint in
    let bound = c.args.bound.0 in
    let b : SFits w64 bound = search rules in
    let m : SFits w64 c.scaled-more.result.0 = search rules in
    let l : SFits w64 c.scaled-less.result.0 = search rules in
    rw (
      c.in-Upper.is,
      back c.max.type_inv,
      c.max.ensures.value,
      max-is,
      back {z = c.by_sign.result} c.by_sign.type_inv,
      c.by_sign.ensures,
      to_z-of_z w64 bound b,
      to_z-of_z w64 _ m,
      to_z-of_z w64 _ l,
      c.scaled-more.ensures,
      c.scaled-less.ensures,
      to_z-of_z w32 kw c.ranges.setpoint,
    )
    (chosen max_z (le_z (pos 0) bound) (kw *ℤ pos 5670) (kw *ℤ pos 5130) bound)

pub returns-in-Lower : goal.returns-in-Lower
unfolding ugt_of five_percent_more five_percent_less
returns-in-Lower c =
    let kw = c.args.setpoint in
    let bound = c.args.bound.0 in
    let b : SFits w64 bound = search rules in
    let m : SFits w64 c.scaled-more.result.0 = search rules in
    let l : SFits w64 c.scaled-less.result.0 = search rules in
    rw (
      c.in-Lower.is,
      back c.min.type_inv,
      c.min.ensures.value,
      min-is,
      back {z = c.by_sign-in-Lower.result} c.by_sign-in-Lower.type_inv,
      c.by_sign-in-Lower.ensures,
      to_z-of_z w64 bound b,
      to_z-of_z w64 _ m,
      to_z-of_z w64 _ l,
      c.scaled-more.ensures,
      c.scaled-less.ensures,
      to_z-of_z w32 kw c.ranges.setpoint,
    )
    (chosen min_z (le_z (pos 0) bound) (kw *ℤ pos 5130) (kw *ℤ pos 5670) bound)
