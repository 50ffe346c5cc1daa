-- What a channel starts from: nothing, or what the run before it handed on (docs/RULES.md, 'Bounds').
use Rattle.std.specs.Prelude.{List, [], ℤ}
use Rattle.arithmetic.specs.Power.{units_of}

-- what one run hands on to the next: OGA and UGA in units, and the last setpoints in kW, oldest first
pub record Block : Type 0 where
  pub oga : ℤ
  pub uga : ℤ
  pub setpoints : List ℤ

-- nothing, or a block
pub data Start : Type 0 where
  fresh : Start
  carried : Block → Start

-- the setpoints that lie before the first sample, oldest first
abbrev pub carried_by : Start → List ℤ
carried_by fresh = []
carried_by (carried b) = b.setpoints

-- OGA and UGA before the first sample s: those of the block; without one they are taken equal to it (house H2)
abbrev pub oga_before : Start → ℤ → ℤ
oga_before fresh s = units_of s
oga_before (carried b) s = b.oga

abbrev pub uga_before : Start → ℤ → ℤ
uga_before fresh s = units_of s
uga_before (carried b) s = b.uga
