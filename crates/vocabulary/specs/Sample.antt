-- The powers that a sample may have (docs/RULES.md, 'Ranges').
use Rattle.std.specs.Prelude.{Bool, ℤ, pos, negsuc}
use Rattle.arithmetic.specs.Whole.{within_of}

-- setpoint and actual −2,000,000 to 2,000,000 kW
unfoldable pub power_in_range : ℤ → Bool
power_in_range kw = within_of (negsuc 1999999) kw (pos 2000000)
