-- Bounds that can be moved inward by a gradient in 64 bits, as code holds them; no rule says this.
use Rattle.std.specs.Prelude.{◌+◌, ◌^◌, ◌≤◌, ℤ, pos, neg_ℤ}
use Rattle.arithmetic.specs.Whole.{up, down}
use Rattle.bounds.specs.declared.side.Side.{Side}
use Rattle.bounds.specs.declared.side.Side.TheVariants.{Upper, Lower}
use Rattle.vocabulary.specs.declared.acceptance.Bounds.{Bounds}
use Rattle.bounds.specs.Side.{farther_of}

-- OGA is not below -2 ^ 44 units, and UGA not above 2 ^ 44
abbrev pub Movable : Side → ℤ → Type 0
Movable Upper bound = down bound ≤ 2 ^ 44 + up bound
Movable Lower bound = up bound ≤ 2 ^ 44 + down bound

pub record MovableBounds (bounds : Bounds) : Type 0 where
  pub above : Movable Upper bounds.oga.0
  pub below : Movable Lower bounds.uga.0

-- the innermost OGA that is so, and UGA
abbrev pub innermost_of : Side → ℤ
innermost_of Upper = neg_ℤ (pos (2 ^ 44))
innermost_of Lower = pos (2 ^ 44)

-- bounds that lie farther in, brought out to there
unfoldable pub movable_of : Bounds → Bounds
movable_of held =
    record {
      oga = record { 0 = farther_of Upper held.oga.0 (innermost_of Upper) };
      uga = record { 0 = farther_of Lower held.uga.0 (innermost_of Lower) };
    }
