-- Sums of an amount of money over lines: over those of a sheet in its 32 places, and as a run keeps them, held in range at each line.
-- Assumes nothing.
use Prim.Native.Nat.{ℕ, zero, suc, ◌+◌, ◌*◌, ◌^◌, ◌<◌}
use mathlib.Core.Path.{◌≡◌, refl, sym, ap, ◌∙◌}
use mathlib.Core.Bool.{true}
use mathlib.Core.List.{List, [], ◌∷◌, ◌++◌}
use native.Mathlib.Omega.{arith}
use native.Mathlib.Numerals.{add-one}
use native.Mathlib.Nat.{suc-mul, zero-mul}
use lib.IntN.{ℤ, pos, ◌+ℤ◌}
use lib.ListN.{length, drop, get_or, replicate, length-append}
use Rattle.arithmetic.specs.Whole.{up, down, within_of}
use Rattle.arithmetic.specs.Money.{held_cents, plus_of}
use Rattle.arithmetic.specs.declared.money.Cents.{Cents}
use Rattle.arithmetic.proofs.Signed.{plus_assoc, plus_none, none-plus}
use Rattle.arithmetic.proofs.Sums.{held-exact}
use Rattle.series.specs.Scan.{each}
use Rattle.vocabulary.specs.declared.direction.Direction.{Direction}
use Rattle.vocabulary.specs.declared.direction.Direction.TheVariants.{Positive, Negative}
use Rattle.contracts.specs.Book.{price_in_range}
use Rattle.quarter.specs.declared.sheet.Figures.{Figures}
use Rattle.contracts.specs.Terms.{no_terms}
use Rattle.quarter.specs.Blank.{no_figures}
use Rattle.quarter.specs.Quarter.{figures_in}
use Rattle.quarter.proofs.LineLaws.{blank_figures, figures_held, sheet-figures}
use Rattle.quarter.proofs.HandedOut.{lines-sized}
use Rattle.records.specs.Account.{held_total}
use Rattle.settlement.proofs.Money.{Near, near-sum, near_fits, All, none, more, Good, lines-good}
use Rattle.meaning.specs.Given.{Deal, Given, deals_in, seconds_in, deal_terms, samples_in, powers_in, terms_in, lines_in, lines_up_to, sum_over, fee_in, penalty_in}
use Rattle.meaning.specs.Endings.{FairDeal, Each, of_none, of_more, Proper}
use Rattle.meaning.proofs.Figures.{kept_in, held_sheet, few-terms, fair-deals, held-figures}
use Rattle.meaning.proofs.Deals.{terms-kept}

zero-near : Near 0 (pos 0)
unfolding up down
zero-near = record { above = omega arith; below = omega arith }

-- ---- over a sheet's 32 places, of which those without a contract count nothing

-- the figures on a sheet's lines, and on both
abbrev lines_on : Direction → Given → ℕ → List Figures
lines_on d g q = each figures_in (held_sheet d g q).lines

abbrev pub quarter_lines : Given → ℕ → List Figures
quarter_lines g q = lines_on Positive g q ++ lines_on Negative g q

module _ (amount : Figures → Cents) (blank : (amount no_figures).0 ≡ pos 0) where
  pub sum-join : (a b : List Figures) → sum_over amount (a ++ b) ≡ sum_over amount a +ℤ sum_over amount b
  unfolding sum_over
  sum-join [] b = sym (none-plus (sum_over amount b))
  sum-join (l ∷ a) b = rw (sum-join a b) (sym (plus_assoc (amount l).0 (sum_over amount a) (sum_over amount b)))

  sum-blank : (n k : ℕ) → sum_over amount (drop k (replicate n no_figures)) ≡ pos 0
  unfolding sum_over
  sum-blank zero zero = refl
  sum-blank zero (suc k) = refl
  sum-blank (suc n) zero = rw (blank, sum-blank n zero) (none-plus (pos 0))
  sum-blank (suc n) (suc k) = sum-blank n k

  sum-sheet : (d : Direction) (g : Given) → Proper g → (q : ℕ) → sum_over amount (each figures_in (held_sheet d g q).lines) ≡ sum_over amount (lines_in d g q)
  unfolding blank_figures
  sum-sheet d g p q =
      ap (sum_over amount) (held-figures g p q d)
      ∙ sum-join (lines_in d g q) (drop (length (deals_in d g)) blank_figures)
      ∙ ap (λ (z : ℤ). sum_over amount (lines_in d g q) +ℤ z) (sum-blank 32 (length (deals_in d g)))
      ∙ plus_none (sum_over amount (lines_in d g q))

  -- with quarter hour q more
  pub sum-quarter : (g : Given) → Proper g → (q : ℕ)
      → sum_over amount (lines_up_to g q) +ℤ sum_over amount (quarter_lines g q) ≡ sum_over amount (lines_up_to g (suc q))
  unfolding lines_up_to
  sum-quarter g p q =
      rw (
        sum-join (lines_on Positive g q) (lines_on Negative g q),
        sum-sheet Positive g p q,
        sum-sheet Negative g p q,
        sum-join (lines_up_to g q) (lines_in Positive g q ++ lines_in Negative g q),
        sum-join (lines_in Positive g q) (lines_in Negative g q),
      )

pub no-fee : no_figures.fee.0 ≡ pos 0
unfolding no_figures
no-fee = refl

pub no-penalty : no_figures.penalty.0 ≡ pos 0
unfolding no_figures
no-penalty = refl

-- ---- amounts within b of 0, added to a sum within k of 0: while all stays in range, what is held is the true sum

module _ (amount : Figures → Cents) (b : ℕ) where
  abbrev Small : Figures → Type 0
  Small l = Near b (amount l).0

  total-exact : (so : Cents) (k : ℕ) (ls : List Figures) → Near k so.0 → All Small ls → k + length ls * b < 2 ^ 63 → (held_total amount so ls).0 ≡ so.0 +ℤ sum_over amount ls
  unfolding held_total sum_over plus_of
  total-exact so k [] n all h = sym (plus_none so.0)
  total-exact so k (l ∷ ls) n (more p all) h =
      let s : Near (k + b) (so.0 +ℤ (amount l).0) = near-sum so.0 (amount l).0 k b n p in
      let f = near_fits (k + b) (so.0 +ℤ (amount l).0) (omega (arith, suc-mul (length ls) b)) s in
      let e : held_cents (so.0 +ℤ (amount l).0) ≡ so.0 +ℤ (amount l).0 = held-exact (so.0 +ℤ (amount l).0) f in
      total-exact (record { 0 = held_cents (so.0 +ℤ (amount l).0) }) (k + b) ls (rw e s) all (omega (arith, suc-mul (length ls) b))
      ∙ rw e (plus_assoc so.0 (amount l).0 (sum_over amount ls))

  total-near : (ls : List Figures) → All Small ls → Near (length ls * b) (sum_over amount ls)
  unfolding sum_over
  total-near [] all = rw (zero-mul b) zero-near
  total-near (l ∷ ls) (more p all) =
      let e : suc (length ls) * b ≡ b + length ls * b = omega (arith, suc-mul (length ls) b) in
      rw e (near-sum (amount l).0 (sum_over amount ls) b (length ls * b) p (total-near ls all))

-- ---- the lines of a quarter hour: 64 places, each amount within 2^46 of 0

no-price : price_in_range (pos 0) ≡ true
unfolding price_in_range within_of
no-price = refl

prices : {xs : List Deal} → Each FairDeal xs → (k : ℕ) → price_in_range (get_or (each deal_terms xs) k no_terms).price ≡ true
unfolding each
prices of_none zero = no-price
prices of_none (suc k) = no-price
prices (of_more f fs) zero = f.priced
prices (of_more f fs) (suc k) = prices fs k

all_join : {P : Figures → Type 0} {a b : List Figures} → All P a → All P b → All P (a ++ b)
all_join none q = q
all_join (more p ps) q = more p (all_join ps q)

module _ (g : Given) (p : Proper g) (q : ℕ) where
  lines-held : (d : Direction) → lines_on d g q ≡ figures_held (seconds_in g) (powers_in d g q) (terms_in d g)
  unfolding held_sheet
  lines-held d =
      sheet-figures d (seconds_in g) (kept_in d g) (samples_in g q) ∙ ap (figures_held (seconds_in g) (powers_in d g q)) (terms-kept (deals_in d g))

  sheet-good : (d : Direction) → All Good (lines_on d g q)
  sheet-good d = rw (lines-held d) (lines-good (seconds_in g) (powers_in d g q) (terms_in d g) (few-terms g p q d) (prices (fair-deals g p d)))

  sheet-long : (d : Direction) → length (lines_on d g q) ≡ 32
  sheet-long d = rw (lines-held d) (lines-sized (seconds_in g) (powers_in d g q) (terms_in d g) (few-terms g p q d))

  quarter-good : All Good (quarter_lines g q)
  quarter-good = all_join (sheet-good Positive) (sheet-good Negative)

  quarter-long : length (quarter_lines g q) ≡ 64
  quarter-long =
      length-append (lines_on Positive g q) (lines_on Negative g q) ∙ rw (sheet-long Positive, sheet-long Negative)

all-fees : {ls : List Figures} → All Good ls → All (Small fee_in (2 ^ 46)) ls
all-fees none = none
all-fees (more p ps) = more p.fee (all-fees ps)

all-penalties : {ls : List Figures} → All Good ls → All (Small penalty_in (2 ^ 46)) ls
all-penalties none = none
all-penalties (more p ps) = more p.penalty (all-penalties ps)

-- ---- a sum as a run keeps it over the first t quarter hours: the true sum, and so near to 0 that it was never held at an end of its range

pub record KeepsSum (amount : Figures → Cents) (g : Given) (t : ℕ) (sum : Cents) : Type 0 where
  pub is : sum.0 ≡ sum_over amount (lines_up_to g t)
  pub near : Near (t * 2 ^ 52) sum.0

pub sum-none : (amount : Figures → Cents) (g : Given) → KeepsSum amount g 0 (record { 0 = pos 0 })
unfolding lines_up_to sum_over
sum-none amount g = record { is = refl; near = zero-near }

-- where none was taken yet, the contracts don't matter
pub sum-before : (amount : Figures → Cents) (g h : Given) (t : ℕ) (sum : Cents) → t ≡ 0 → KeepsSum amount g t sum → KeepsSum amount h t sum
unfolding lines_up_to
sum-before amount g h zero sum e s = record { is = s.is; near = s.near }
sum-before amount g h (suc t) sum e s = absurd (omega arith)

module _ (amount : Figures → Cents) (blank : (amount no_figures).0 ≡ pos 0) (g : Given) (p : Proper g) (t : ℕ) (sum : Cents) (k : KeepsSum amount g t sum) (few : t < 100)
    (small : All (Small amount (2 ^ 46)) (quarter_lines g t)) where
  exact : (held_total amount sum (quarter_lines g t)).0 ≡ sum.0 +ℤ sum_over amount (quarter_lines g t)
  exact = total-exact amount (2 ^ 46) sum (t * 2 ^ 52) (quarter_lines g t) k.near small (omega (arith, quarter-long g p t))

  -- one quarter hour more
  more-sum : KeepsSum amount g (t + 1) (held_total amount sum (quarter_lines g t))
  more-sum =
      let n = near-sum sum.0 (sum_over amount (quarter_lines g t)) (t * 2 ^ 52) (length (quarter_lines g t) * 2 ^ 46) k.near (total-near amount (2 ^ 46) (quarter_lines g t) small) in
      let e : (t + 1) * 2 ^ 52 ≡ t * 2 ^ 52 + length (quarter_lines g t) * 2 ^ 46 = omega (arith, quarter-long g p t) in
      record {
        is = exact ∙ rw (k.is, add-one t) (sum-quarter amount blank g p t);
        near = rw (exact, e) n;
      }

module _ (g : Given) (p : Proper g) (t : ℕ) (sum : Cents) (few : t < 100) where
  pub fees-more : KeepsSum fee_in g t sum → KeepsSum fee_in g (t + 1) (held_total fee_in sum (quarter_lines g t))
  fees-more k = more-sum fee_in no-fee g p t sum k few (all-fees (quarter-good g p t))

  pub penalties-more : KeepsSum penalty_in g t sum → KeepsSum penalty_in g (t + 1) (held_total penalty_in sum (quarter_lines g t))
  penalties-more k = more-sum penalty_in no-penalty g p t sum k few (all-penalties (quarter-good g p t))
