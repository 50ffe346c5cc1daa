-- The verdict that the checker comes to, from what it keeps, is the verdict.
-- Assumes nothing.
use Prim.Native.Nat.{ℕ, zero, suc, ◌+◌, ◌*◌, ◌-◌, ◌≤◌, ◌<◌}
use mathlib.Core.Path.{◌≡◌, refl, sym, ap, ◌∙◌}
use mathlib.Core.List.{List, [], ◌∷◌, ◌++◌, append_assoc, append-nil}
use native.Mathlib.Omega.{arith}
use native.Mathlib.Numerals.{add-one}
use native.Mathlib.Nat.{add-zero, zero-add}
use lib.IntN.{ℤ, pos}
use lib.ListN.{length, take, drop, replicate, take-append-drop, length-drop}
use lib.Seq.{length-take-le}
use Rattle.series.proofs.Scanned.{each-length}
use Rattle.shares.proofs.Acceptance.{no_shares, acceptable-zeros}
use Rattle.vocabulary.specs.declared.direction.Direction.{Direction}
use Rattle.vocabulary.specs.declared.direction.Direction.TheVariants.{Positive, Negative}
use Rattle.contracts.specs.declared.books.Books.{Books}
use Rattle.meaning.specs.Figures.{gap_of_claim}
use Rattle.meaning.specs.Given.{Given, deals_in, deal_terms, quarters_in, seconds_in, powers_in, terms_in, claims_in}
use Rattle.meaning.specs.Endings.{Proper}
use Rattle.meaning.proofs.Figures.{claims-count}
use Rattle.meaning.proofs.Standing.{BooksMeet}
use Rattle.judging.specs.Kept.{Kept}
use Rattle.judging.specs.Judged.{filled_out, shares_from, holds_at, holds_in, verdict_from, judged_of}
use Rattle.verdict.specs.Wanted.{per_quarter_hour, shares_before, shares_at, surplus_in, gaps_in, acceptable_at, Side, side, sides_up_to, first_failing, verdict_of}
use Rattle.verdict.proofs.Own.{place-within, still-there}
use Rattle.verdict.proofs.Gaps.{KeptMeets}
use Rattle.verdict.proofs.Places.{count-is}
use Rattle.judging.specs.Judged as J

-- ---- shares in 32 places

fewer-blanks : (n k : ℕ) (z : ℤ) → drop k (replicate n z) ≡ replicate (n - k) z
fewer-blanks n zero z = let e : n - 0 ≡ n = omega arith in rw e
fewer-blanks zero (suc k) z = let e : 0 - suc k ≡ 0 = omega arith in rw e
fewer-blanks (suc n) (suc k) z = let e : suc n - suc k ≡ n - k = omega arith in rw e (fewer-blanks n k z)

filled-out : (shares : List ℤ) (k : ℕ) → length shares ≡ k → filled_out shares ≡ shares ++ no_shares k
unfolding filled_out
filled-out shares k e = rw (e, fewer-blanks 32 k (pos 0))

-- ---- a direction of a quarter hour

module _ (g : Given) (p : Proper g) (books : Books) (b : BooksMeet g books) (kept : Kept) (k : KeptMeets g (quarters_in g) kept) (said : List ℤ)
    (all : length said ≡ quarters_in g * per_quarter_hour g) (there : take (quarters_in g * per_quarter_hour g) kept.shares ≡ said) where
  before-is : (q : ℕ) (d : Direction) → J.shares_before books q d ≡ shares_before d g q
  before-is q Positive = rw (count-is g p books b Positive, count-is g p books b Negative)
  before-is q Negative = rw (count-is g p books b Positive, count-is g p books b Negative)

  gaps-count : (q : ℕ) (d : Direction) → length (gaps_in d g q) ≡ length (deals_in d g)
  gaps-count q d = each-length gap_of_claim (claims_in d g q) ∙ claims-count (seconds_in g) (powers_in d g q) (terms_in d g) ∙ each-length deal_terms (deals_in d g)

  said-there : (q : ℕ) (d : Direction) → q < quarters_in g → take (length (deals_in d g)) (drop (shares_before d g q) kept.shares) ≡ shares_at d g q said
  unfolding shares_at
  said-there q d h =
      ap (λ (l : List ℤ). take (length (deals_in d g)) (drop (shares_before d g q) l)) (sym (take-append-drop (quarters_in g * per_quarter_hour g) kept.shares))
      ∙ rw there (still-there g p d q said (drop (quarters_in g * per_quarter_hour g) kept.shares) (omega (arith, place-within g p d q (quarters_in g) h)))

  said-count : (q : ℕ) (d : Direction) → q < quarters_in g → length (shares_at d g q said) ≡ length (deals_in d g)
  unfolding shares_at
  said-count q d h =
      length-take-le (length (deals_in d g)) (drop (shares_before d g q) said) (omega (arith, length-drop (shares_before d g q) said, place-within g p d q (quarters_in g) h))

  holds_same : (q : ℕ) (d : Direction) → q < quarters_in g → holds_in books kept q d ≡ acceptable_at g said q d
  unfolding holds_in holds_at shares_from
  holds_same q d h =
      rw (
        k.gaps-at q h d,
        k.surplus-at q h d,
        before-is q d,
        count-is g p books b d,
        said-there q d h,
        filled-out (shares_at d g q said) (length (deals_in d g)) (said-count q d h),
      )
      (acceptable-zeros (surplus_in d g q) (gaps_in d g q) (shares_at d g q said) (length (deals_in d g)) (said-count q d h ∙ sym (gaps-count q d)))

  -- ---- one after the other

  sides_from : ℕ → ℕ → List Side
  sides_from q zero = []
  sides_from q (suc left) = side q Positive ∷ side q Negative ∷ sides_from (q + 1) left

  sides-are : (q left : ℕ) → sides_up_to q ++ sides_from q left ≡ sides_up_to (q + left)
  unfolding sides_up_to sides_from
  sides-are q zero = rw (add-zero q) (append-nil (sides_up_to q))
  sides-are q (suc left) =
      let e : q + suc left ≡ suc q + left = omega arith in
      rw (e, add-one q) (sym (append_assoc (sides_up_to q) (side q Positive ∷ side q Negative ∷ []) (sides_from (suc q) left)) ∙ sides-are (suc q) left)

  verdict-same : (q left : ℕ) → q + left ≤ quarters_in g → verdict_from books kept (quarters_in g) q left ≡ first_failing g said (sides_from q left)
  unfolding verdict_from first_failing sides_from
  verdict-same q zero h = refl
  verdict-same q (suc left) h =
      rw (holds_same q Positive (omega arith), holds_same q Negative (omega arith), verdict-same (q + 1) left (omega arith))

  -- THE VERDICT
  pub judged-same : judged_of books kept (quarters_in g) ≡ verdict_of g said
  unfolding verdict_of sides_up_to
  judged-same = verdict-same 0 (quarters_in g) (omega arith) ∙ ap (first_failing g said) (sides-are 0 (quarters_in g) ∙ rw (zero-add (quarters_in g)))
