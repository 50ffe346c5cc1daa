-- Laws on either side: what is farther out, and the next bounds.
-- Assumes nothing.
use mathlib.Core.Path.{◌≡◌, refl}
use Prim.Native.Nat.{ℕ}
use lib.IntN.{ℤ}
use Rattle.arithmetic.proofs.Signed.{max_ind, min_ind}
use Rattle.vocabulary.specs.declared.interval.Interval.{Interval}
use Rattle.bounds.specs.declared.side.Side.{Side}
use Rattle.bounds.specs.declared.side.Side.TheVariants.{Upper, Lower}
use Rattle.vocabulary.specs.declared.acceptance.Bounds.{Bounds}
use Rattle.bounds.specs.Windows.{spread_of, gradient_of, next_oga, next_uga}
use Rattle.bounds.specs.Side.{farther_of, seen_by, next_of}

-- the farther out is one of the two
pub farther-ind : (P : ℤ → Type 0) (side : Side) (a b : ℤ) → P a → P b → P (farther_of side a b)
farther-ind P Upper = max_ind P
farther-ind P Lower = min_ind P

-- ---- both bounds by what the windows of a past show are those of the past

pub next-seen : (i : Interval) (lot : ℕ) (f : ℕ → ℤ) (held : Bounds) → next_of i lot (seen_by i f) held
    ≡ record { oga = record { 0 = next_oga i lot f held.oga.0 }; uga = record { 0 = next_uga i lot f held.uga.0 } }
unfolding next_of seen_by next_oga next_uga gradient_of spread_of
next-seen i lot f held = refl
