-- The starred figures of docs/RULES.md, 'Figures to check by': one test over the table of specs/Figures.antt, and one statement.
-- Assumes nothing.
use mathlib.Core.Path.{◌≡◌, refl, ap, ap₂}
use mathlib.Core.Logic.{⊎_elim}
use mathlib.Core.Bool.{Bool, true, false}
use mathlib.Core.List.Memᴰ
use mathlib.Core.List.{List, [], ◌∷◌, Memᴰ}
use lib.Dec.{T, eqb, eqb→eq}
use lib.IntN.{ℤ, pos, negsuc}
use Rattle.arithmetic.specs.Whole.{max_z, min_z, least_of}
use Rattle.arithmetic.specs.Power.{units_of}
use Rattle.arithmetic.specs.Energy.{kwh_of, energy_of}
use Rattle.arithmetic.specs.Money.{whole_of, fee_of}
use Rattle.channel.specs.Tolerance.{five_percent_more, five_percent_less, ogt_of, ugt_of}
use Rattle.values.specs.Values.{plus, acceptance, surplus, under_delivery, shortfall}
use Rattle.series.specs.Sums.{over_of}
use Rattle.series.specs.Scan.{outputs, each}
use Rattle.contracts.specs.Terms.{upper_of}
use Rattle.series.specs.Slices.{slice_of}
use Rattle.shares.specs.Largest.{pick_of, marked, marks_of}
use Rattle.shares.specs.Shares.{handed_out, share_floor, remainder, added, parted_of, shares_of}
use Rattle.figures.specs.Figures.{Figure, in32, given, said, figures}

-- ---- the test

abbrev both : Bool → Bool → Bool
both true b = b
both false b = false

abbrev same_z : ℤ → ℤ → Bool
same_z (pos a) (pos b) = eqb a b
same_z (pos a) (negsuc b) = false
same_z (negsuc a) (pos b) = false
same_z (negsuc a) (negsuc b) = eqb a b

abbrev same : List ℤ → List ℤ → Bool
same [] [] = true
same [] (y ∷ ys) = false
same (x ∷ xs) [] = false
same (x ∷ xs) (y ∷ ys) = both (same_z x y) (same xs ys)

unfoldable right : Figure → Bool
right f = same (given f) (said f)

abbrev all : List Figure → Bool
all [] = true
all (f ∷ fs) = both (right f) (all fs)

tested : T (all figures)
unfolding figures right given said in32 outputs upper_of
    max_z min_z least_of units_of kwh_of energy_of whole_of fee_of five_percent_more five_percent_less ogt_of ugt_of
    plus acceptance surplus under_delivery shortfall over_of each slice_of
    pick_of marked marks_of handed_out share_floor remainder added parted_of shares_of
tested = tt

-- ---- and what it shows

both_left : (a b : Bool) → T (both a b) → T a
both_left true b t = tt
both_left false b t = t

both_right : (a b : Bool) → T (both a b) → T b
both_right true b t = t
both_right false b t = absurd t

same_z-is : (x y : ℤ) → T (same_z x y) → x ≡ y
same_z-is (pos a) (pos b) t = ap pos (eqb→eq a b t)
same_z-is (pos a) (negsuc b) t = absurd t
same_z-is (negsuc a) (pos b) t = absurd t
same_z-is (negsuc a) (negsuc b) t = ap negsuc (eqb→eq a b t)

same-is : (xs ys : List ℤ) → T (same xs ys) → xs ≡ ys
same-is [] [] t = refl
same-is [] (y ∷ ys) t = absurd t
same-is (x ∷ xs) [] t = absurd t
same-is (x ∷ xs) (y ∷ ys) t =
    ap₂ ◌∷◌ (same_z-is x y (both_left (same_z x y) (same xs ys) t)) (same-is xs ys (both_right (same_z x y) (same xs ys) t))

rows_right : (fs : List Figure) → T (all fs) → (f : Figure) → Memᴰ f fs → given f ≡ said f
unfolding right
rows_right [] t f m = absurd (Memᴰ.not-nil m)
rows_right (g ∷ fs) t f m =
    ⊎_elim
    (λ e. rw e (same-is (given g) (said g) (both_left (right g) (all fs) t)))
    (λ r. rows_right fs (both_right (right g) (all fs) t) f r)
    (Memᴰ.cases_cons m)

-- each row of the table: what the definitions give is what the rules say
pub figures-right : (f : Figure) → Memᴰ f figures → given f ≡ said f
figures-right = rows_right figures tested
