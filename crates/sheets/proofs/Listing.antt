-- The lines that the example prints (docs/RULES.md, 'The example by hand'), byte for byte, from the figures of that example.
use Prim.Native.Nat.{ℕ}
use mathlib.Core.Path.{◌≡◌, refl}
use mathlib.Core.List.{[], ◌∷◌}
use lib.IntN.{pos, negsuc}
use Rattle.arithmetic.specs.Energy.{kwh}
use Rattle.print.specs.Decimal.{digits_in, digits, number_text, two_digits, four_digits, date_text}
use Rattle.print.specs.Fields.{tabbed}
use Rattle.sheets.specs.Sheet.{line_text, head_text, pool_text, energies_of, rest_fields, contract_text, contracts_text, side_text, quarter_text, total_text, refusal_text}
use Rattle.sheets.specs.Sheet.{bounds_text, setpoint_text, setpoints_text, block_text}
use Rattle.arithmetic.specs.declared.money.Cents.{Cents}
use Rattle.vocabulary.specs.declared.interval.Interval.TheVariants.{Four}
use Rattle.contracts.specs.declared.book.Awarded.{Awarded}
use Rattle.quarter.specs.declared.sheet.Pool.{Pool}
use Rattle.quarter.specs.declared.sheet.Figures.{Figures}
use Rattle.quarter.specs.declared.sheet.Sheet.{Sheet}
use Rattle.std.proofs.Common.{Err}
use Rattle.vocabulary.specs.declared.refusal.Refusal.TheVariants.{NoEnd}

abbrev cents : ℕ → Cents
cents n = record { 0 = pos n }

abbrev a1 : Awarded
a1 = record { identifier = 65 ∷ 49 ∷ []; length = 2; award = 6000; price = pos 5000 }

abbrev a2 : Awarded
a2 = record { identifier = 65 ∷ 50 ∷ []; length = 2; award = 6000; price = pos 8000 }

abbrev figures_of : ℕ → ℕ → ℕ → ℕ → ℕ → ℕ → ℕ → ℕ → ℕ → Figures
figures_of so is ak mi zu un ab fee penalty =
    record { setpoint = kwh so; actual = kwh is; acceptance = kwh ak; shortfall = kwh mi; share = kwh zu; under_delivery = kwh un; billed = kwh ab; fee = cents fee; penalty = cents penalty }

abbrev pool_of : ℕ → ℕ → ℕ → ℕ → ℕ → ℕ → ℕ → ℕ → Pool
pool_of so is ak me mi zu un ab =
    record {
      setpoint = kwh so;
      actual = kwh is;
      acceptance = kwh ak;
      surplus = kwh me;
      shortfall = kwh mi;
      share = kwh zu;
      under_delivery = kwh un;
      billed = kwh ab;
      rest = record { setpoint = kwh 0; actual = kwh 0; acceptance = kwh 0 };
    }

abbrev positive : Sheet
positive =
    record {
      pool = pool_of 2500 2489 2444 44 56 44 0 2488;
      lines =
          record { contract = a1; figures = figures_of 1500 1500 1500 0 0 0 1500 7500 0 }
          ∷ record { contract = a2; figures = figures_of 1000 989 944 56 44 0 988 7904 0 }
          ∷ [];
      count = 2;
    }

abbrev negative : Sheet
negative = record { pool = pool_of 0 0 0 0 0 0 0 0; lines = []; count = 0 }

pub listing-head : head_text (record { year = 2017; month = 2; day = 20 }) Four 5000 ≡ 86 ∷ 9 ∷ 51 ∷ 9 ∷ 50 ∷ 48 ∷ 49 ∷ 55 ∷ 45 ∷ 48 ∷ 50 ∷ 45 ∷ 50 ∷ 48 ∷ 9 ∷ 52 ∷ 9 ∷ 53 ∷ 48 ∷ 48 ∷ 48 ∷ 10 ∷ []
unfolding head_text line_text tabbed date_text four_digits two_digits digits digits_in
listing-head = refl

pub listing-quarter : quarter_text 0 (record { positive = positive; negative = negative })
    ≡ 81 ∷ 9 ∷ 48 ∷ 9 ∷ 80 ∷ 9 ∷ 50 ∷ 53 ∷ 48 ∷ 48 ∷ 9 ∷ 50 ∷ 52 ∷ 56 ∷ 57 ∷ 9 ∷ 50 ∷ 52 ∷ 52 ∷ 52 ∷ 9 ∷ 52 ∷ 52 ∷ 9 ∷ 53 ∷ 54 ∷ 9 ∷ 52 ∷ 52 ∷ 9 ∷ 48 ∷ 9
    ∷ 50 ∷ 52 ∷ 56 ∷ 56 ∷ 9 ∷ 48 ∷ 9 ∷ 48 ∷ 9 ∷ 48 ∷ 10 ∷ 75 ∷ 9 ∷ 48 ∷ 9 ∷ 80 ∷ 9 ∷ 65 ∷ 49 ∷ 9 ∷ 49 ∷ 53 ∷ 48 ∷ 48 ∷ 9 ∷ 49 ∷ 53 ∷ 48 ∷ 48 ∷ 9 ∷ 49 ∷ 53 ∷ 48 ∷ 48 ∷ 9 ∷ 48
    ∷ 9 ∷ 48 ∷ 9 ∷ 48 ∷ 9 ∷ 49 ∷ 53 ∷ 48 ∷ 48 ∷ 9 ∷ 55 ∷ 53 ∷ 48 ∷ 48 ∷ 9 ∷ 48 ∷ 10 ∷ 75 ∷ 9 ∷ 48 ∷ 9 ∷ 80 ∷ 9 ∷ 65 ∷ 50 ∷ 9 ∷ 49 ∷ 48 ∷ 48 ∷ 48 ∷ 9
    ∷ 57 ∷ 56 ∷ 57 ∷ 9 ∷ 57 ∷ 52 ∷ 52 ∷ 9 ∷ 53 ∷ 54 ∷ 9 ∷ 52 ∷ 52 ∷ 9 ∷ 48 ∷ 9 ∷ 57 ∷ 56 ∷ 56 ∷ 9 ∷ 55 ∷ 57 ∷ 48 ∷ 52 ∷ 9 ∷ 48 ∷ 10 ∷ 81 ∷ 9 ∷ 48 ∷ 9
    ∷ 78 ∷ 9 ∷ 48 ∷ 9 ∷ 48 ∷ 9 ∷ 48 ∷ 9 ∷ 48 ∷ 9 ∷ 48 ∷ 9 ∷ 48 ∷ 9 ∷ 48 ∷ 9 ∷ 48 ∷ 9 ∷ 48 ∷ 9 ∷ 48 ∷ 9 ∷ 48 ∷ 10 ∷ []
unfolding quarter_text side_text contracts_text contract_text energies_of rest_fields pool_text line_text tabbed number_text digits digits_in
listing-quarter = refl

pub listing-total : total_text 1 (cents 15404) (cents 0) ≡ 84 ∷ 9 ∷ 49 ∷ 9 ∷ 49 ∷ 53 ∷ 52 ∷ 48 ∷ 52 ∷ 9 ∷ 48 ∷ 10 ∷ []
unfolding total_text line_text tabbed number_text digits digits_in
listing-total = refl

-- a block, with two setpoints for short
pub listing-block : block_text (record { oga = pos 5400; uga = negsuc 5399; setpoints = pos 1 ∷ negsuc 0 ∷ [] })
    ≡ 79 ∷ 9 ∷ 53 ∷ 52 ∷ 48 ∷ 48 ∷ 9 ∷ 45 ∷ 53 ∷ 52 ∷ 48 ∷ 48 ∷ 10 ∷ 66 ∷ 9 ∷ 49 ∷ 10 ∷ 66 ∷ 9 ∷ 45 ∷ 49 ∷ 10 ∷ []
unfolding block_text bounds_text setpoints_text setpoint_text line_text tabbed number_text digits digits_in
listing-block = refl

-- empty input
pub listing-refusal : refusal_text 1 (Err NoEnd) ≡ 82 ∷ 9 ∷ 49 ∷ 9 ∷ 49 ∷ 53 ∷ 10 ∷ []
unfolding refusal_text line_text tabbed digits digits_in
listing-refusal = refl
