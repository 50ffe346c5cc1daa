-- `contracts::book::Book::terms` meets its contract.
-- Assumes nothing.
use Rattle.std.proofs.Common.{rules, arith, ℕ, ◌<◌, ◌≡◌, ◌∙◌, sym, length}
use lib.ListN.{get_or}
use Rattle.contracts.specs.Terms.{terms_of, no_terms}
use Rattle.contracts.proofs.Looking.{no-contract, unmapped, each-at}
use Rattle.contracts.proofs.book.Book.terms.Goals as goal

pub returns : goal.returns
returns c =
    let contracts = c.args.self.contracts in
    let m : length contracts ≡ 32 = search (rules, unmapped) in
    let at : (i : ℕ) → i < length contracts → get_or c.map.result i no_terms ≡ terms_of (get_or contracts i no-contract) =
    λ i h. let called = (c.map.ensures.items.at i no-contract no_terms (omega arith)).2 in search (rules, called) in
    each-at terms_of contracts c.map.result no-contract no_terms (c.map.ensures.items.long ∙ sym m) at
