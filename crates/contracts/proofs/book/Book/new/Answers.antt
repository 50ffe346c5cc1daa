-- `contracts::book::Book::new` meets its contract.
-- Assumes nothing.
use Rattle.contracts.specs.Book.{empty_book}
use Rattle.contracts.proofs.book.Book.new.Goals as goal

pub returns : goal.returns
unfolding empty_book
returns c = rw c.no_contract.ensures
