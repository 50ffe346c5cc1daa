-- `contracts::book::Book::sum_of_awards` meets its contract. The invariant: the sum so far, and the awards that are left, come to the whole; each award is below 2 ^ 32.
-- Assumes nothing.
use Rattle.std.proofs.Common.{arith, ◌≡◌, ◌∙◌, ap}
use Rattle.contracts.specs.Book.{sum_of_awards}
use Rattle.contracts.proofs.Looking.{no-contract, one-award, no-award}
use Rattle.contracts.proofs.book.Book.sum_of_awards.Goals as goal

pub loop-contract-init : goal.loop-contract-init
loop-contract-init c = (omega arith, omega arith)

pub overflow_add-sum : goal.overflow_add-sum
overflow_add-sum c = omega (arith, c.given-contract-items.ensures.few)

pub loop-contract-preserved : goal.loop-contract-preserved
loop-contract-preserved c =
    let cs = c.given-contract-items.result.now in
    (omega (arith, one-award cs c.loop-contract.contract-index no-contract (omega arith)), omega arith)

pub returns-clause-sum : goal.returns-clause-sum
returns-clause-sum c =
    let l = c.loop-contract in
    let given = c.given-contract-items in
    let e : l.sum ≡ sum_of_awards given.result.now = omega (arith, no-award given.result.now l.contract-index (omega arith)) in
    e ∙ ap sum_of_awards given.ensures.listed

pub returns-clause-fits : goal.returns-clause-fits
returns-clause-fits c = omega (arith, c.given-contract-items.ensures.few)
