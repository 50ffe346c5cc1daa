-- The bounds along a line of setpoints, oldest first. The setpoints from place 302 on are led along; those before them are the past of the first.
use Rattle.std.specs.Prelude.{ℕ, zero, suc, ◌+◌, ◌-◌, ◌<◌, ◌≡◌, List, ◌++◌, ℤ, pos, get_or, drop}
use Rattle.arithmetic.specs.Whole.{least_of}
use Rattle.series.specs.Places.{table}
use Rattle.vocabulary.specs.declared.interval.Interval.{Interval}
use Rattle.vocabulary.specs.Interval.{windows_of}
use Rattle.bounds.specs.declared.side.Side.{Side}
use Rattle.bounds.specs.declared.side.Side.TheVariants.{Upper, Lower}
use Rattle.vocabulary.specs.declared.acceptance.Bounds.{Bounds}
use Rattle.bounds.specs.Windows.{over}
use Rattle.bounds.specs.Side.{farther_of, next_by}
use Rattle.bounds.specs.Widening.{back_at}

-- OGA, or UGA, after n setpoints, from the one that is held before them
unfoldable pub held_after : Side → Interval → ℕ → List ℤ → ℤ → ℕ → ℤ
held_after side i lot line held zero = held
held_after side i lot line held (suc n) = next_by side i lot (back_at line (302 + n)) (held_after side i lot line held n)

-- at each of them
abbrev pub held_at : Side → Interval → ℕ → List ℤ → ℤ → ℕ → ℤ
held_at side i lot line held k = held_after side i lot line held (suc k)

-- both after n of them
abbrev pub bounds_after : Interval → ℕ → List ℤ → Bounds → ℕ → Bounds
bounds_after i lot line held n = record { oga = record { 0 = held_after Upper i lot line held.oga.0 n }; uga = record { 0 = held_after Lower i lot line held.uga.0 n } }

-- ---- as code holds them

-- the first n in a series that held others
abbrev pub held_up_to : Side → Interval → ℕ → List ℤ → ℤ → ℕ → List ℤ → List ℤ
held_up_to side i lot line held n xs = table (held_at side i lot line held) n ++ drop n xs

-- how many of `count` setpoints are led along: 900 at most, and no more than there is room for their bounds
unfoldable pub led_count : ℕ → ℕ → ℕ → ℕ
led_count count ogas ugas = least_of (least_of count 900) (least_of ogas ugas)

-- bounds along n setpoints: after the last, and at each in two series
pub record Leads (i : Interval) (lot : ℕ) (held : Bounds) (line : List ℤ) (n : ℕ) (ogas ugas ogas' ugas' : List ℤ) (r : Bounds) : Type 0 where
  pub last : r ≡ bounds_after i lot line held n
  pub above : ogas' ≡ held_up_to Upper i lot line held.oga.0 n ogas
  pub below : ugas' ≡ held_up_to Lower i lot line held.uga.0 n ugas

-- ---- the windows that the passes over the line show at each of n setpoints

-- the largest, or the smallest, of a window from `from` to `to` samples back: setpoint k stands at place 302 + k of the line, and the window at it
-- stands where it ends, `from` places before that
pub record Windowed (side : Side) (line : List ℤ) (n from to : ℕ) (xs : List ℤ) : Type 0 where
  pub found : (k : ℕ) → k < n → get_or xs (302 + k - from) (pos 0) ≡ over (farther_of side) (back_at line (302 + k)) from (to - from)

abbrev pub NearWindows : Side → Interval → List ℤ → ℕ → List ℤ → Type 0
NearWindows side i line n = Windowed side line n 0 (windows_of i).near

abbrev pub SpreadWindows : Side → Interval → List ℤ → ℕ → List ℤ → Type 0
SpreadWindows side i line n = Windowed side line n (windows_of i).from (windows_of i).to

-- the first n setpoints of a line are one and the same
abbrev pub Flat : List ℤ → ℕ → Type 0
Flat line n = (k : ℕ) → k < n → get_or line k (pos 0) ≡ get_or line 0 (pos 0)

-- both windows, on both sides
pub record Shown (i : Interval) (line : List ℤ) (n : ℕ) (highest lowest most least : List ℤ) : Type 0 where
  pub near_upper : NearWindows Upper i line n highest
  pub near_lower : NearWindows Lower i line n lowest
  pub spread_upper : SpreadWindows Upper i line n most
  pub spread_lower : SpreadWindows Lower i line n least
