-- The powers of a quarter hour (docs/RULES.md, 'Bounds', 'Values of a sample'), sample by sample.
use Rattle.std.specs.Prelude.{ℕ, ◌+◌, List, [], ◌∷◌, ℤ, pos, slice_index_or}
use Rattle.arithmetic.specs.Whole.{up}
use Rattle.series.specs.Scan.{outputs}
use Rattle.vocabulary.specs.declared.interval.Interval.{Interval}
use Rattle.channel.specs.Start.{Start}
use Rattle.channel.specs.Backward.{oga_of, uga_of}
use Rattle.vocabulary.specs.declared.direction.Direction.{Direction}
use Rattle.claims.specs.declared.view.Samples.{Samples as Lent}
use Rattle.values.specs.declared.value.Quantity.{Quantity}
use Rattle.values.specs.Values.{value_of, seen, sample_of}

-- the samples of a quarter hour, in kW, with the bounds at each, in units
pub record Samples : Type 0 where
  pub setpoints : List ℤ
  pub actuals : List ℤ
  pub ogas : List ℤ
  pub ugas : List ℤ

abbrev pub samples : List ℤ → List ℤ → List ℤ → List ℤ → Samples
samples setpoints actuals ogas ugas = record { setpoints = setpoints; actuals = actuals; ogas = ogas; ugas = ugas }

-- those that are lent
abbrev pub lent : Lent → Samples
lent x = samples x.setpoints.now x.actuals.now x.ogas.now x.ugas.now

-- the place after a place
abbrev pub next : {X : Type 0} → ℕ → X → ℕ
next k x = k + 1

-- a quantity of the sample at place i, whose setpoint is s: a value of the rules, seen from a direction; none is below 0
unfoldable pub power_at : Direction → Samples → Quantity → ℕ → ℤ → ℕ
power_at d x q i s =
    up (value_of q (seen d (sample_of s (slice_index_or x.actuals i (pos 0)) (slice_index_or x.ogas i (pos 0)) (slice_index_or x.ugas i (pos 0)))))

-- that of each sample
abbrev pub powers_of : Direction → Samples → Quantity → List ℕ
powers_of d x q = outputs next (power_at d x q) 0 x.setpoints

-- ---- the bounds along the setpoints of a quarter hour, by a start and a series of setpoints, newest first, that came before them

-- OGA and UGA of the series at each of the setpoints
unfoldable pub ogas_over : Interval → ℕ → Start → List ℤ → List ℤ → List ℤ
ogas_over i lot start h [] = []
ogas_over i lot start h (s ∷ ss) = oga_of i lot start (s ∷ h) ∷ ogas_over i lot start (s ∷ h) ss

unfoldable pub ugas_over : Interval → ℕ → Start → List ℤ → List ℤ → List ℤ
ugas_over i lot start h [] = []
ugas_over i lot start h (s ∷ ss) = uga_of i lot start (s ∷ h) ∷ ugas_over i lot start (s ∷ h) ss

-- the samples of a quarter hour that comes after a series
abbrev pub samples_over : Interval → ℕ → Start → List ℤ → List ℤ → List ℤ → Samples
samples_over i lot start h ss vs = samples ss vs (ogas_over i lot start h ss) (ugas_over i lot start h ss)
