-- The limits of the first contracts need no others: so of all that a list has places for, those that it holds are taken.
-- Assumes nothing.
use Rattle.std.proofs.Common.{◌≡◌, ℕ, ◌≤◌, List, length, take, sym, ◌∙◌, arith, length-take-le}
use Rattle.contracts.specs.declared.book.Book.{Book}
use Rattle.contracts.specs.Book.{Held, held_of}
use Rattle.contracts.specs.declared.terms.Terms.{Terms}
use Rattle.contracts.specs.Terms.{terms_of, terms_in, upper_of, limits_of}
use Rattle.series.specs.Scan.{each}
use Rattle.series.proofs.Scanned.{each-length, outputs-length, take-outputs}

module _ (ts : List Terms) (count : ℕ) where
  pub same-limits : take count (limits_of ts) ≡ limits_of (take count ts)
  same-limits = take-outputs upper_of upper_of 0 ts count

  pub cuts-enough : count ≤ length ts → count ≤ length (limits_of ts)
  cuts-enough h = omega (arith, outputs-length upper_of upper_of 0 ts)

-- the limits of the contracts that a list holds, and how many these are
module _ (book : Book) (count : ℕ) (h : Held book count) where
  pub held-limits : (ts : List Terms) (upper : List ℕ) → upper ≡ limits_of ts → ts ≡ each terms_of book.contracts → take count upper ≡ limits_of (terms_in book)
  held-limits ts upper e f = rw (e, f, same-limits (each terms_of book.contracts) count, h.is)

  pub held-count : length (terms_in book) ≡ count
  held-count =
      length-take-le (held_of book) (each terms_of book.contracts) (omega (arith, each-length terms_of book.contracts, h.is, h.fits)) ∙ sym h.is
