-- `contracts::books::Books::with` meets its contract.
-- Assumes nothing.
use Rattle.std.proofs.Common.{rules}
use Rattle.contracts.specs.Books.{with_contract_in}
use Rattle.contracts.proofs.books.Books.with.Goals as goal

pub returns : goal.returns
unfolding with_contract_in
returns c = rw (c.with_book.ensures, c.with-longer.ensures, c.book-own.ensures) (search rules)
