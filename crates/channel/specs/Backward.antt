-- The channel told backward, as its ring holds it: from the newest setpoint. Only contracts that speak of the channel's state cite this file; that its bounds are
-- oga(t) and uga(t) of Bounds.antt is a law (proofs/Timed.antt). A series is a list of setpoints in kW, the newest first.
use Rattle.std.specs.Prelude.{ℕ, List, [], ◌∷◌, ◌++◌, ℤ, pos, get_or}
use Rattle.vocabulary.specs.declared.interval.Interval.{Interval}
use Rattle.bounds.specs.Windows.{next_oga, next_uga}
use Rattle.channel.specs.Start.{Start, carried_by, oga_before, uga_before}

-- a series with setpoints added to it, one after the other
unfoldable pub series_after : List ℤ → List ℤ → List ℤ
series_after h [] = h
series_after h (s ∷ ss) = series_after (s ∷ h) ss

-- the first setpoint of a series
unfoldable pub first : List ℤ → ℤ
first [] = pos 0
first (s ∷ []) = s
first (s ∷ (t ∷ h)) = first (t ∷ h)

-- the setpoint k samples back in a series; before its first it is taken equal to it (house H2)
unfoldable pub past : List ℤ → ℕ → ℤ
past h k = get_or h k (first h)

-- what lies before the first sample, newest first
abbrev pub before : Start → List ℤ
before start = series_after [] (carried_by start)

-- soll(t - k), the setpoint k samples back among the samples, and then among those before them
abbrev pub past_from : Start → List ℤ → ℕ → ℤ
past_from start h = past (h ++ before start)

-- OGA and UGA after a series of samples
unfoldable pub oga_of : Interval → ℕ → Start → List ℤ → ℤ
oga_of i lot start [] = oga_before start (pos 0)
oga_of i lot start (s ∷ []) = next_oga i lot (past_from start (s ∷ [])) (oga_before start s)
oga_of i lot start (s ∷ (t ∷ h)) = next_oga i lot (past_from start (s ∷ (t ∷ h))) (oga_of i lot start (t ∷ h))

unfoldable pub uga_of : Interval → ℕ → Start → List ℤ → ℤ
uga_of i lot start [] = uga_before start (pos 0)
uga_of i lot start (s ∷ []) = next_uga i lot (past_from start (s ∷ [])) (uga_before start s)
uga_of i lot start (s ∷ (t ∷ h)) = next_uga i lot (past_from start (s ∷ (t ∷ h))) (uga_of i lot start (t ∷ h))
