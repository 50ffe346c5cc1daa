-- The series of the channel figures (docs/RULES.md, 'A channel that rises'): the setpoint is 0 to second 99, and another from then on.
use Rattle.std.specs.Prelude.{ℕ, zero, suc, cond, List, [], ◌∷◌, ltb, ℤ, pos}

unfoldable pub setpoint_at : ℤ → ℕ → ℤ
setpoint_at kw second = cond (ltb second 100) (pos 0) kw

-- its first n samples, the newest first
unfoldable pub jump : ℤ → ℕ → List ℤ
jump kw zero = []
jump kw (suc n) = setpoint_at kw n ∷ jump kw n
