-- The verdict on the shares that were said (docs/RULES.md, 'Checking shares'): the quarter hours in order, P before N, and the first that does not hold.
use Rattle.std.specs.Prelude.{ℕ, zero, suc, ◌+◌, ◌*◌, ◌-◌, Bool, cond, List, ◌++◌, ℤ, pos, length, take, drop, get_or, replicate}
use Rattle.vocabulary.specs.declared.direction.Direction.{Direction}
use Rattle.vocabulary.specs.declared.direction.Direction.TheVariants.{Positive, Negative}
use Rattle.shares.specs.Acceptable.{acceptable_of}
use Rattle.contracts.specs.declared.books.Books.{Books}
use Rattle.sheets.specs.declared.verdict.Verdict.{Verdict}
use Rattle.sheets.specs.declared.verdict.Verdict.TheVariants.{Accepted, Failing}
use Rattle.judging.specs.Kept.{Kept, no_gaps, row_of}
use Rattle.judging.specs.Wanted.{contracts_in, per_quarter}

-- how many shares stand before those of a direction of quarter hour q
abbrev pub shares_before : Books → ℕ → Direction → ℕ
shares_before books q Positive = q * per_quarter books
shares_before books q Negative = q * per_quarter books + contracts_in Positive books

-- in 32 places, with zeros after them
unfoldable pub filled_out : List ℤ → List ℤ
filled_out shares = shares ++ replicate (32 - length shares) (pos 0)

-- n shares from place `from` on
unfoldable pub shares_from : ℕ → ℕ → List ℤ → List ℤ
shares_from from n shares = filled_out (take n (drop from shares))

-- what is kept at a row against n shares from a place on
unfoldable pub holds_at : Kept → ℕ → ℕ → ℕ → Bool
holds_at kept row from n = acceptable_of (get_or kept.surpluses row 0) (get_or kept.gaps row no_gaps) (shares_from from n kept.shares)

-- whether a direction of quarter hour q holds
unfoldable pub holds_in : Books → Kept → ℕ → Direction → Bool
holds_in books kept q d = holds_at kept (row_of q d) (shares_before books q d) (contracts_in d books)

-- the quarter hours from q on, so many of them are left
unfoldable pub verdict_from : Books → Kept → ℕ → ℕ → ℕ → Verdict
verdict_from books kept all q zero = Accepted all
verdict_from books kept all q (suc left) =
    cond (holds_in books kept q Positive)
    (cond (holds_in books kept q Negative) (verdict_from books kept all (q + 1) left) (Failing q Negative))
    (Failing q Positive)

abbrev pub judged_of : Books → Kept → ℕ → Verdict
judged_of books kept quarters = verdict_from books kept quarters 0 quarters
