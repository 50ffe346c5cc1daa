-- `contracts::books::Books::new` meets its contract.
-- Assumes nothing.
use Rattle.contracts.specs.Books.{no_books}
use Rattle.contracts.proofs.books.Books.new.Goals as goal

pub returns : goal.returns
unfolding no_books
returns c = rw (c.new.ensures, c.new-2.ensures)
