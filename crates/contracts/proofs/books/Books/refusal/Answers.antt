-- `contracts::books::Books::refusal` meets its contract.
-- Assumes nothing.
use Rattle.std.proofs.Common.{rules}
use Rattle.contracts.specs.Books.{books_refusal}
use Rattle.contracts.proofs.books.Books.refusal.Goals as goal

pub returns : goal.returns
unfolding books_refusal
returns c = rw (c.refusal.ensures, c.book-other.ensures, c.opposite.ensures, c.book-own.ensures) (search rules)
