-- The windows at every place of a line of setpoints, oldest first: how the passes over the line hold them.
use Rattle.std.specs.Prelude.{ℕ, ◌-◌, List, ℤ, pos, get_or}
use Rattle.series.specs.Places.{Fills}
use Rattle.bounds.specs.declared.side.Side.{Side}
use Rattle.bounds.specs.Windows.{over}
use Rattle.bounds.specs.Side.{farther_of}

-- the setpoint k places before a place of a line
unfoldable pub back_at : List ℤ → ℕ → ℕ → ℤ
back_at line place k = get_or line (place - k) (pos 0)

-- the setpoint farthest out of the w that end at a place
unfoldable pub ending_at : Side → List ℤ → ℕ → ℕ → ℤ
ending_at side line w place = over (farther_of side) (back_at line place) 0 (w - 1)

-- the farther out of what stands at a place and d places before it
unfoldable pub either_at : Side → List ℤ → ℕ → ℕ → ℤ
either_at side xs d place = farther_of side (get_or xs place (pos 0)) (get_or xs (place - d) (pos 0))

-- ys has the windows of w that end at one of the first n places
abbrev pub Reaching : Side → List ℤ → ℕ → ℕ → List ℤ → Type 0
Reaching side line w n = Fills (ending_at side line w) (w - 1) n
