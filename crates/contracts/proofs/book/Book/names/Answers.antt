-- `contracts::book::Book::names` meets its contract. Assumes nothing.
use Rattle.std.proofs.Common.{arith}
use borrow.Author.Tests.{le-ltb, lt-ltb}
use Rattle.contracts.specs.Book.{no_contract, names_at}
use Rattle.contracts.proofs.Identifiers.{same-pointwise}
use Rattle.contracts.proofs.Looking.{whatever-past, no-contract}
use Rattle.contracts.proofs.book.Book.names.Goals as goal

pub returns-then-k-held : goal.returns-then-k-held
unfolding names_at
returns-then-k-held c =
    let s = c.args in
    rw (
      ← c.held.ensures.is,
      lt-ltb _ _ c.if-k-held.true,
      ← c.padded.ensures,
      whatever-past s.self.contracts s.k no_contract no-contract (omega (arith, c.held.ensures.fits)),
      ← same-pointwise _ _,
    ) c.eq.ensures

pub returns-else-k-held : goal.returns-else-k-held
unfolding names_at
returns-else-k-held c = rw (← c.held.ensures.is, le-ltb _ _ c.if-k-held.false)
