-- The starred figures of docs/RULES.md, 'Figures to check by', in its order: what a row starts from, what the definitions give for it, and
-- what the rules say.
use Rattle.std.specs.Prelude.{ℕ, ◌*◌, ◌-◌, List, [], ◌∷◌, ◌++◌, length, replicate, ℤ, pos, neg_ℤ}
use Rattle.arithmetic.specs.Power.{units_of}
use Rattle.arithmetic.specs.Energy.{energy_of}
use Rattle.arithmetic.specs.Money.{fee_of}
use Rattle.vocabulary.specs.declared.direction.Direction.{Direction}
use Rattle.vocabulary.specs.declared.direction.Direction.TheVariants.{Positive, Negative}
use Rattle.values.specs.declared.value.Quantity.{Quantity}
use Rattle.values.specs.declared.value.Quantity.TheVariants.{Acceptance, Surplus, Shortfall, UnderDelivery}
use Rattle.values.specs.Values.{value_of, seen, sample_of}
use Rattle.series.specs.Scan.{each}
use Rattle.contracts.specs.declared.terms.Terms.{Terms}
use Rattle.series.specs.Cuts.{cuts_of, last_of, slice_in}
use Rattle.contracts.specs.Terms.{limits_of}
use Rattle.shares.specs.Shares.{shares_of}

-- a row of each kind, what it starts from before what comes of it
pub data Figure : Type 0 where
  -- direction, setpoint, actual, and OGA = UGA; a quantity; and its value; all powers in kW
  value : Direction → ℤ → ℤ → ℤ → Quantity → ℕ → Figure
  -- awards and the pool's power, and the contracts' slices of it and the rest; all in kW
  slices : List ℕ → ℕ → List ℕ → ℕ → Figure
  -- gaps and the pool's surplus, and the contracts' shares of it; all in kWh
  shares : List ℕ → ℕ → List ℕ → Figure
  -- unit-seconds, and the energy in kWh
  energy : ℕ → ℕ → Figure
  -- kWh billed and price in cent per MWh, and the fee in cent
  fee : ℕ → ℤ → ℤ → Figure

-- contracts with these awards, at no price
abbrev pub awarded : ℕ → Terms
awarded award = record { award = award; price = pos 0 }

-- kW in units
abbrev pub units : ℕ → ℕ
units kw = kw * 5400

-- the 32 places of a direction: those without a contract have gap 0 and share 0
unfoldable pub in32 : List ℕ → List ℕ
in32 ns = ns ++ replicate (32 - length ns) 0

-- what the definitions give for a row; powers of samples are in units
unfoldable pub given : Figure → List ℤ
given (value direction setpoint actual bound quantity kw) =
    value_of quantity (seen direction (sample_of setpoint actual (units_of bound) (units_of bound))) ∷ []
given (slices awards power parts rest) =
    each pos (each (slice_in (units power)) (cuts_of (limits_of (each awarded awards))) ++ (units power - last_of (limits_of (each awarded awards))) ∷ [])
given (shares gaps surplus parts) = each pos (shares_of surplus (in32 gaps))
given (energy unit_seconds kwh) = pos (energy_of unit_seconds).0 ∷ []
given (fee kwh price cents) = (fee_of record { 0 = kwh } price).0 ∷ []

-- what the rules say
unfoldable pub said : Figure → List ℤ
said (value direction setpoint actual bound quantity kw) = pos (units kw) ∷ []
said (slices awards power parts rest) = each pos (each units parts ++ units rest ∷ [])
said (shares gaps surplus parts) = each pos (in32 parts)
said (energy unit_seconds kwh) = pos kwh ∷ []
said (fee kwh price cents) = cents ∷ []

-- a number below 0
abbrev minus : ℕ → ℤ
minus n = neg_ℤ (pos n)

unfoldable pub figures : List Figure
figures =
    -- OGA = UGA = setpoint = 10,000, and an actual
    value Positive (pos 10000) (pos 9800) (pos 10000) Shortfall 200
    ∷ value Positive (pos 10000) (pos 10400) (pos 10000) Acceptance 10000
    ∷ value Positive (pos 10000) (pos 10400) (pos 10000) Surplus 400
    ∷ value Positive (pos 10000) (pos 10600) (pos 10000) Surplus 500
    ∷ value Positive (pos 10000) (pos 9000) (pos 10000) UnderDelivery 500
    ∷ value Positive (pos 10000) (pos 9000) (pos 10000) Shortfall 500
    ∷ value Positive (pos 10000) (minus 1) (pos 10000) UnderDelivery 9500
    ∷ value Positive (pos 10000) (minus 1) (pos 10000) Shortfall 500
    -- all at −10,000, actual −9,000
    ∷ value Negative (minus 10000) (minus 9000) (minus 10000) UnderDelivery 500
    ∷ value Negative (minus 10000) (minus 9000) (minus 10000) Shortfall 500
    -- awards 6,000 and 6,000
    ∷ slices (6000 ∷ 6000 ∷ []) 9800 (6000 ∷ 3800 ∷ []) 0
    ∷ slices (6000 ∷ 6000 ∷ []) 6000 (6000 ∷ 0 ∷ []) 0
    ∷ slices (6000 ∷ 6000 ∷ []) 13000 (6000 ∷ 6000 ∷ []) 1000
    -- gaps and M, which is the surplus where that is below F; with F 0 there are no shares, whatever the surplus
    ∷ shares (1 ∷ 1 ∷ 1 ∷ []) 2 (1 ∷ 1 ∷ 0 ∷ [])
    ∷ shares (5 ∷ 3 ∷ 0 ∷ []) 4 (3 ∷ 1 ∷ 0 ∷ [])
    ∷ shares (0 ∷ 0 ∷ 0 ∷ []) 4 (0 ∷ 0 ∷ 0 ∷ [])
    -- just below half a kWh, and half a kWh
    ∷ energy 9719999 0
    ∷ energy 9720000 1
    -- just below half a cent, and half a cent, under either sign
    ∷ fee 1 (pos 499) (pos 0)
    ∷ fee 1 (pos 500) (pos 1)
    ∷ fee 1 (minus 499) (pos 0)
    ∷ fee 1 (minus 500) (minus 1)
    ∷ []
