-- When a block is acceptable: as many setpoints as the windows reach back, every number within its range, and the newest setpoint between UGA and OGA.
use Rattle.std.specs.Prelude.{◌≡◌, Bool, true, ◌&&◌, List, [], ◌∷◌, ℤ, pos, negsuc, length}
use Rattle.arithmetic.specs.Whole.{within_of}
use Rattle.arithmetic.specs.Power.{units_of}
use Rattle.vocabulary.specs.declared.interval.Interval.{Interval}
use Rattle.vocabulary.specs.Interval.{windows_of}
use Rattle.vocabulary.specs.Sample.{power_in_range}
use Rattle.channel.specs.Start.{Block, Start, fresh, carried}

-- OGA and UGA, in units: ±10,800,000,000
unfoldable pub bound_in_range : ℤ → Bool
bound_in_range units = within_of (negsuc 10799999999) units (pos 10800000000)

-- each setpoint: ±2,000,000 kW
unfoldable pub all_in_range : List ℤ → Bool
all_in_range [] = true
all_in_range (s ∷ ss) = power_in_range s && all_in_range ss

-- the last of setpoints that come oldest first
unfoldable pub newest_of : List ℤ → ℤ
newest_of [] = pos 0
newest_of (s ∷ []) = s
newest_of (s ∷ (t ∷ ss)) = newest_of (t ∷ ss)

pub record Acceptable (i : Interval) (b : Block) : Type 0 where
  pub number : length b.setpoints ≡ (windows_of i).to
  pub oga : bound_in_range b.oga ≡ true
  pub uga : bound_in_range b.uga ≡ true
  pub setpoints : all_in_range b.setpoints ≡ true
  pub between : within_of b.uga (units_of (newest_of b.setpoints)) b.oga ≡ true

-- a start that a run can have
abbrev pub AcceptableStart : Interval → Start → Type 0
AcceptableStart i fresh = Unit
AcceptableStart i (carried b) = Acceptable i b
