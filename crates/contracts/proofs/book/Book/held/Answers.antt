-- `contracts::book::Book::held` meets its contract: the contracts are 32, so a count above that lists them all.
-- Assumes nothing.
use Rattle.std.proofs.Common.{rules, ◌≡◌, length}
use Rattle.contracts.proofs.Looking.{unmapped, held-least}
use Rattle.contracts.proofs.book.Book.held.Goals as goal

pub returns : goal.returns
returns c =
    let book = c.args.self in
    let m : length book.contracts ≡ 32 = search (rules, unmapped) in
    rw c.min.ensures (held-least book m)
