-- The windows over the past, the gradient and the next bounds (docs/RULES.md, 'Windows and gradient' and 'Bounds').
-- A past f has the setpoint k samples back, in kW, at k. Bounds and gradient are in units.
use Rattle.std.specs.Prelude.{ℕ, zero, suc, ◌+◌, ◌-◌, ◌*◌, ℤ, pos, ◌-ℤ◌, ◌+ℤ◌, ◌*ℤ◌}
use Rattle.arithmetic.specs.Whole.{max_z, min_z}
use Rattle.arithmetic.specs.Power.{units_of}
use Rattle.vocabulary.specs.declared.interval.Interval.{Interval}
use Rattle.vocabulary.specs.Interval.{windows_of}

-- f at from, from + 1, .., from + n, put together by op
unfoldable pub over : (ℤ → ℤ → ℤ) → (ℕ → ℤ) → ℕ → ℕ → ℤ
over op f from zero = f from
over op f from (suc n) = op (over op f from n) (f (from + suc n))

-- the largest and the smallest setpoint of a window, from `from` to `to` samples back
abbrev pub largest : (ℕ → ℤ) → ℕ → ℕ → ℤ
largest f from to = over max_z f from (to - from)

abbrev pub smallest : (ℕ → ℤ) → ℕ → ℕ → ℤ
smallest f from to = over min_z f from (to - from)

-- spread: largest minus smallest setpoint in the spread window
unfoldable pub spread_of : Interval → (ℕ → ℤ) → ℤ
spread_of i f =
    largest f (windows_of i).from (windows_of i).to -ℤ smallest f (windows_of i).from (windows_of i).to

-- gradient: the larger of lot and spread, times the interval, over 270 seconds; in units 20 × interval × the larger
unfoldable pub gradient_of : Interval → ℕ → (ℕ → ℤ) → ℤ
gradient_of i lot f = max_z (pos lot) (spread_of i f) *ℤ pos (20 * (windows_of i).seconds)

-- oga(t) = max{soll in the near window, oga(t - 1) - g(t)}, by oga(t - 1), which is `held`
unfoldable pub next_oga : Interval → ℕ → (ℕ → ℤ) → ℤ → ℤ
next_oga i lot f held = max_z (units_of (largest f 0 (windows_of i).near)) (held -ℤ gradient_of i lot f)

-- uga(t) = min{soll in the near window, uga(t - 1) + g(t)}
unfoldable pub next_uga : Interval → ℕ → (ℕ → ℤ) → ℤ → ℤ
next_uga i lot f held = min_z (units_of (smallest f 0 (windows_of i).near)) (held +ℤ gradient_of i lot f)
