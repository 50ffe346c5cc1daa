-- The block that a run may start from, as far as it was given (docs/RULES.md, 'The start'), and why a call is refused for it.
use Rattle.std.specs.Prelude.{◌-◌, Bool, true, false, cond, not, ◌&&◌, [], ◌∷◌, eqb, ℤ, pos, Err}
use Rattle.arithmetic.specs.Whole.{within_of}
use Rattle.arithmetic.specs.Power.{units_of}
use Rattle.vocabulary.specs.declared.refusal.Refusal.TheVariants.{WrongMoment, BadBlockLength, BadBlockValue}
use Rattle.vocabulary.specs.Refusals.{Ruling, accepted}
use Rattle.vocabulary.specs.Grounds.{on, first}
use Rattle.vocabulary.specs.declared.interval.Interval.{Interval}
use Rattle.vocabulary.specs.Interval.{windows_of}
use Rattle.vocabulary.specs.Sample.{power_in_range}
use Rattle.vocabulary.specs.declared.acceptance.Bounds.{Bounds}
use Rattle.channel.specs.Acceptable.{bound_in_range}
use Rattle.settlement.specs.declared.load.Load.{Load}

-- no block
unfoldable pub no_load : Load
no_load = record { begun = false; left = 0; bounds = record { oga = record { 0 = pos 0 }; uga = record { 0 = pos 0 } } }

-- with its bounds: 301, 100 or 75 setpoints are still to come
unfoldable pub begun_with : Interval → Bounds → Load
begun_with i bounds = record { begun = true; left = (windows_of i).to; bounds = bounds }

-- and one fewer
unfoldable pub one_fewer : Load → Load
one_fewer load = record { begun = load.begun; left = load.left - 1; bounds = load.bounds }

-- a setpoint between UGA and OGA, both ends included
unfoldable pub between : Bounds → ℤ → Bool
between bounds s = within_of bounds.uga.0 (units_of s) bounds.oga.0

-- bounds: 1 where they don't come directly after the opening, 18 out of range
unfoldable pub bounds_refusal : Bool → Load → Bounds → Ruling
bounds_refusal untouched load bounds =
    first
    (on WrongMoment (not untouched)
    ∷ on WrongMoment load.begun
    ∷ on BadBlockValue (not (bound_in_range bounds.oga.0))
    ∷ on BadBlockValue (not (bound_in_range bounds.uga.0))
    ∷ [])

-- a past setpoint: 1 neither in nor directly after a block, 17 one too many, 18 out of range, or the newest and not between UGA and OGA
unfoldable pub setpoint_refusal : Bool → Load → ℤ → Ruling
setpoint_refusal untouched load s =
    first
    (on WrongMoment (not untouched)
    ∷ on WrongMoment (not load.begun)
    ∷ on BadBlockLength (eqb load.left 0)
    ∷ on BadBlockValue (not (power_in_range s))
    ∷ on BadBlockValue (eqb load.left 1 && not (between load.bounds s))
    ∷ [])

-- 17 also for a contract or a sample that nothing else is wrong with, while setpoints are still to come
abbrev pub or_lacking : Load → Ruling → Ruling
or_lacking load ruling = cond (eqb load.left 0) ruling (cond (accepted ruling) (Err BadBlockLength) ruling)
