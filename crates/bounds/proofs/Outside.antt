-- What lies outside a value, on either side; what a window reaches lies outside each of its setpoints, and a bound outside the newest.
-- Assumes nothing.
use mathlib.Core.Path.{◌≡◌}
use mathlib.Core.Logic.{⊎_elim}
use Prim.Native.Nat.{ℕ, zero, suc, ◌+◌, ◌-◌, ◌≤◌, ◌<◌}
use native.Mathlib.Omega.{arith}
use native.Mathlib.Nat.{add-zero, eq-or-lt_of_le}
use lib.IntN.{ℤ}
use Rattle.arithmetic.specs.Whole.{up, down}
use Rattle.arithmetic.specs.Power.{units_of}
use Rattle.arithmetic.proofs.Signed.{up-mul, down-mul, min-left, max-left, max-right, min-right, eq_of}
use Rattle.vocabulary.specs.declared.interval.Interval.{Interval}
use Rattle.vocabulary.specs.Interval.{windows_of}
use Rattle.bounds.specs.declared.side.Side.{Side}
use Rattle.bounds.specs.declared.side.Side.TheVariants.{Upper, Lower}
use Rattle.bounds.specs.Windows.{over}
use Rattle.bounds.specs.Side.{farther_of, inward_of, bound_of}
use Rattle.bounds.proofs.Sides.{farther-ind}

-- a bound does not lie inside a value: it is at least the value on the upper side, and at most on the lower
abbrev pub Outside : Side → ℤ → ℤ → Type 0
Outside Upper bound x = up x + down bound ≤ up bound + down x
Outside Lower bound x = up bound + down x ≤ up x + down bound

pub outside-self : (side : Side) (a : ℤ) → Outside side a a
outside-self Upper a = omega arith
outside-self Lower a = omega arith

pub outside_trans : (side : Side) (a b c : ℤ) → Outside side a b → Outside side b c → Outside side a c
outside_trans Upper a b c x y = omega arith
outside_trans Lower a b c x y = omega arith

pub farther-outside : (side : Side) (a b : ℤ) → Outside side (farther_of side a b) a
farther-outside Upper = max-left
farther-outside Lower = min-left

pub outside-both : (side : Side) (a b : ℤ) → Outside side a b → Outside side b a → a ≡ b
outside-both Upper a b x y = eq_of a b (omega arith)
outside-both Lower a b x y = eq_of a b (omega arith)

pub farther-outside-second : (side : Side) (a b : ℤ) → Outside side (farther_of side a b) b
farther-outside-second Upper = max-right
farther-outside-second Lower = min-right

-- what lies outside two lies outside the farther of them
pub farther-least : (side : Side) (z a b : ℤ) → Outside side z a → Outside side z b → Outside side z (farther_of side a b)
farther-least side z a b x y = farther-ind (Outside side z) side a b x y

module _ (side : Side) (f : ℕ → ℤ) where
  -- what a window reaches lies outside each of its setpoints, and inside whatever does so too
  pub over-all : (from n i : ℕ) → i ≤ n → Outside side (over (farther_of side) f from n) (f (from + i))
  unfolding over
  over-all from zero zero h = rw (add-zero from) (outside-self side (f from))
  over-all from zero (suc i) h = absurd (omega arith)
  over-all from (suc n) i h =
      let a = over (farther_of side) f from n in
      let b = f (from + suc n) in
      let c = farther_of side a b in
      ⊎_elim
      (λ (e : i ≡ suc n). rw e (farther-outside-second side a b))
      (λ (l : i < suc n). outside_trans side c a (f (from + i)) (farther-outside side a b) (over-all from n i (omega arith)))
      (eq-or-lt_of_le h)

  pub over-least : (z : ℤ) (from n : ℕ) → ((i : ℕ) → i ≤ n → Outside side z (f (from + i))) → Outside side z (over (farther_of side) f from n)
  unfolding over
  over-least z from zero h = rw (add-zero from) at (h 0 (omega arith))
  over-least z from (suc n) h =
      farther-least side z (over (farther_of side) f from n) (f (from + suc n)) (over-least z from n (λ i l. h i (omega arith))) (h (suc n) (omega arith))

units-outside : (side : Side) (a b : ℤ) → Outside side a b → Outside side (units_of a) (units_of b)
unfolding units_of
units-outside Upper a b h = omega (arith, up-mul a 5400, down-mul a 5400, up-mul b 5400, down-mul b 5400)
units-outside Lower a b h = omega (arith, up-mul a 5400, down-mul a 5400, up-mul b 5400, down-mul b 5400)

-- the next bound lies outside the newest setpoint
pub bound-outside : (side : Side) (i : Interval) (f : ℕ → ℤ) (held gradient : ℤ) → Outside side (bound_of side i f held gradient) (units_of (f 0))
bound-outside side i f held gradient =
    let near = over (farther_of side) f 0 ((windows_of i).near - 0) in
    outside_trans side (bound_of side i f held gradient) (units_of near) (units_of (f 0))
    (farther-outside side (units_of near) (inward_of side held gradient))
    (units-outside side near (f 0) (over-all side f 0 ((windows_of i).near - 0) 0 (omega arith)))
