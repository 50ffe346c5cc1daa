-- `contracts::book::Book::with` meets its contract.
-- Assumes nothing.
use borrow.Author.Tests.{le-leb, lt-leb}
use mir.Facts.{to_z-of_z}
use Rattle.contracts.specs.Book.{with_contract, full}
use Rattle.contracts.proofs.book.Book.with.Goals as goal

pub returns-then-self-lt32 : goal.returns-then-self-lt32
unfolding with_contract full
returns-then-self-lt32 c =
    let f = c.ranges in
    rw (lt-leb _ _ c.if-self-lt32.true, c.contract.ensures, to_z-of_z f.award, to_z-of_z f.price)

pub returns-else-self-lt32 : goal.returns-else-self-lt32
unfolding with_contract full
returns-else-self-lt32 c = rw (le-leb _ _ c.if-self-lt32.false)
