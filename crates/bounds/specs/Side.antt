-- The two bounds are one rule, seen from the upper and from the lower side; each line is a definition of Windows.
use Rattle.std.specs.Prelude.{ℕ, ◌-◌, ◌*◌, ℤ, pos, ◌-ℤ◌, ◌+ℤ◌, ◌*ℤ◌}
use Rattle.arithmetic.specs.Whole.{max_z, min_z}
use Rattle.arithmetic.specs.Power.{units_of}
use Rattle.vocabulary.specs.declared.interval.Interval.{Interval}
use Rattle.vocabulary.specs.Interval.{windows_of}
use Rattle.bounds.specs.declared.side.Side.{Side}
use Rattle.bounds.specs.declared.side.Side.TheVariants.{Upper, Lower}
use Rattle.bounds.specs.declared.bound.Seen.{Seen}
use Rattle.vocabulary.specs.declared.acceptance.Bounds.{Bounds}
use Rattle.bounds.specs.Windows.{over, largest, smallest, next_oga, next_uga}

-- of two numbers the one farther out: the larger, or the smaller
abbrev pub farther_of : Side → ℤ → ℤ → ℤ
farther_of Upper = max_z
farther_of Lower = min_z

-- a bound, one gradient inward: OGA falls and UGA rises
abbrev pub inward_of : Side → ℤ → ℤ → ℤ
inward_of Upper bound gradient = bound -ℤ gradient
inward_of Lower bound gradient = bound +ℤ gradient

-- the gradient, by the largest and the smallest setpoint of the spread window
abbrev pub climb_of : Interval → ℕ → ℤ → ℤ → ℤ
climb_of i lot most least = max_z (pos lot) (most -ℤ least) *ℤ pos (20 * (windows_of i).seconds)

-- the next OGA, or UGA, by the setpoint farthest out of the near window, the one before it and the gradient
abbrev pub onward_of : Side → ℤ → ℤ → ℤ → ℤ
onward_of side near held gradient = farther_of side (units_of near) (inward_of side held gradient)

-- the same by the past: `next_oga` and `next_uga`, once the gradient is that of the past
abbrev pub bound_of : Side → Interval → (ℕ → ℤ) → ℤ → ℤ → ℤ
bound_of side i f held gradient =
    onward_of side (over (farther_of side) f 0 ((windows_of i).near - 0)) held gradient

-- and with that gradient
abbrev pub next_by : Side → Interval → ℕ → (ℕ → ℤ) → ℤ → ℤ
next_by Upper = next_oga
next_by Lower = next_uga

-- what the windows of a past show
unfoldable pub seen_by : Interval → (ℕ → ℤ) → Seen
seen_by i f =
    record {
      highest = largest f 0 (windows_of i).near;
      lowest = smallest f 0 (windows_of i).near;
      most = largest f (windows_of i).from (windows_of i).to;
      least = smallest f (windows_of i).from (windows_of i).to;
    }

-- both bounds, by what the windows show
unfoldable pub next_of : Interval → ℕ → Seen → Bounds → Bounds
next_of i lot seen held =
    record {
      oga = record { 0 = onward_of Upper seen.highest held.oga.0 (climb_of i lot seen.most seen.least) };
      uga = record { 0 = onward_of Lower seen.lowest held.uga.0 (climb_of i lot seen.most seen.least) };
    }
