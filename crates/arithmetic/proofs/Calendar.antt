-- The rule of the month lengths gives the lengths that people know. Their list stands here alone, to compare with.
-- Assumes nothing.
use mathlib.Core.Path.{◌≡◌, refl, sym}
use mathlib.Core.Bool.{true, false, cond}
use mathlib.Core.List.{List, [], ◌∷◌, map}
use Prim.Native.Nat.{ℕ, zero, suc, ◌%◌, ◌≤◌, ◌<◌}
use native.Mathlib.Omega.{arith}
use native.Mathlib.Decide.{ℕ_discrete, dec_lt}
use borrow.Author.Tests.{le-leb, lt-leb, ne_eqb}
use lib.Dec.{eqb}
use lib.ListN.{get_or, get_or-eq_default}
use Rattle.arithmetic.specs.Date.{leap_year, alternating, usual_length, february_length, month_length}

-- January to December, with the days that February has
abbrev pub known_lengths : ℕ → List ℕ
known_lengths february = 31 ∷ february ∷ 31 ∷ 30 ∷ 31 ∷ 30 ∷ 31 ∷ 31 ∷ 30 ∷ 31 ∷ 30 ∷ 31 ∷ []

-- their numbers
abbrev pub months : List ℕ
months = 1 ∷ 2 ∷ 3 ∷ 4 ∷ 5 ∷ 6 ∷ 7 ∷ 8 ∷ 9 ∷ 10 ∷ 11 ∷ 12 ∷ []

-- the months of a common year
pub common-year-known : (year : ℕ) → leap_year year ≡ false → map (month_length year) months ≡ known_lengths 28
unfolding month_length usual_length alternating february_length
common-year-known year common = rw common

-- the months of a leap year
pub leap-year-known : (year : ℕ) → leap_year year ≡ true → map (month_length year) months ≡ known_lengths 29
unfolding month_length usual_length alternating february_length
leap-year-known year leap = rw leap

-- f 0, f 1 and so on, n of them
abbrev firsts : (ℕ → ℕ) → ℕ → List ℕ
firsts f zero = []
firsts f (suc n) = f 0 ∷ firsts (λ (k : ℕ). f (suc k)) n

firsts_at : (f : ℕ → ℕ) (n k : ℕ) → k < n → get_or (firsts f n) k 0 ≡ f k
firsts_at f zero k h = absurd (omega arith)
firsts_at f (suc n) zero h = refl
firsts_at f (suc n) (suc k) h = firsts_at (λ (k : ℕ). f (suc k)) n k (omega arith)

-- every year and every number of a month, 0 and those above 12 among them: the rule gives what the list gives
pub length-known : (year month : ℕ) → month_length year month ≡ get_or (0 ∷ known_lengths (cond (leap_year year) 29 28)) month 0
unfolding month_length usual_length alternating february_length
length-known year month =
    elim (dec_lt month 13) [
      | yes h ↦ sym (firsts_at (month_length year) 13 month h)
      | no h ↦
          let above : 13 ≤ month = omega arith in
          rw (get_or-eq_default (0 ∷ known_lengths (cond (leap_year year) 29 28)) 0 above, le-leb 1 month (omega arith), lt-leb month 12 (omega arith))
    ]

-- from 2000 to 2099 every fourth year is a leap year: 2000 is the only full century there, and a fourth one
pub fourth-year-leap : (year : ℕ) → 2000 ≤ year → year ≤ 2099 → leap_year year ≡ eqb (year % 4) 0
unfolding leap_year
fourth-year-leap year low high =
    elim (ℕ_discrete year 2000) [
      | yes e ↦ rw e
      | no e ↦ rw (ne_eqb (year % 400) 0 (omega arith), ne_eqb (year % 100) 0 (omega arith))
    ]
