-- The samples of the quarter hour at hand, as a run holds them.
use Rattle.std.specs.Prelude.{ℕ, ◌+◌, ◌<◌, ◌≡◌, not, List, [], ◌∷◌, leb, ℤ, pos, set, replicate, Result}
use Rattle.vocabulary.specs.declared.refusal.Refusal.{Refusal}
use Rattle.vocabulary.specs.declared.refusal.Refusal.TheVariants.{WrongMoment, BadPower}
use Rattle.vocabulary.specs.Refusals.{Ruling, number_of, allowed}
use Rattle.vocabulary.specs.Grounds.{on, first}
use Rattle.vocabulary.specs.Sample.{power_in_range}
use Rattle.vocabulary.specs.declared.sample.Sample.{Sample}
use Rattle.records.specs.declared.tape.Tape.{Tape}

unfoldable pub no_tape : Tape
no_tape = record { setpoints = replicate 900 (pos 0); actuals = replicate 900 (pos 0); filled = 0 }

-- one sample more
unfoldable pub longer : Tape → ℤ → ℤ → Tape
longer tape setpoint actual =
    record { setpoints = set tape.setpoints tape.filled setpoint; actuals = set tape.actuals tape.filled actual; filled = tape.filled + 1 }

-- room for the samples of the next quarter hour
unfoldable pub rewound : Tape → Tape
rewound tape = record { setpoints = tape.setpoints; actuals = tape.actuals; filled = 0 }

-- ---- samples, given to it

-- a sample: 1 while a finished quarter hour waits to be taken or after the last one, 13 setpoint or actual out of range
unfoldable pub sample_refusal : ℕ → ℕ → ℕ → ℕ → ℤ → ℤ → Ruling
sample_refusal samples filled taken quarters setpoint actual =
    first
    (on WrongMoment (leb samples filled)
    ∷ on WrongMoment (leb quarters taken)
    ∷ on BadPower (not (power_in_range setpoint))
    ∷ on BadPower (not (power_in_range actual))
    ∷ [])

-- what the test of a sample says: the refusal, and that there is room where there is none
pub record Admitted (samples filled taken quarters : ℕ) (setpoint actual : ℤ) (r : Ruling) : Type 0 where
  pub is : r ≡ sample_refusal samples filled taken quarters setpoint actual
  pub room : number_of r ≡ 0 → filled < samples

-- several samples, as their setpoints and their actuals
unfoldable pub samples_in : List ℤ → List ℤ → List Sample
samples_in [] actuals = []
samples_in (setpoint ∷ setpoints) [] = []
samples_in (setpoint ∷ setpoints) (actual ∷ actuals) = record { setpoint = setpoint; actual = actual } ∷ samples_in setpoints actuals

-- one sample more, where it is not refused
unfoldable pub one_recorded : ℕ → ℕ → ℕ → Tape → ℤ → ℤ → Result Tape Refusal
one_recorded size taken quarters tape setpoint actual =
    allowed (sample_refusal size tape.filled taken quarters setpoint actual) (longer tape setpoint actual)
