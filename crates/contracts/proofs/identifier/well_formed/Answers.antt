-- `contracts::identifier::well_formed` meets its contract.
-- Assumes nothing.
use Rattle.std.proofs.Common.{rules, tests, ◌≡◌, ◌&&◌, length}
use lib.Dec.{leb}
use Rattle.std.specs.List.{list_all}
use Rattle.std.proofs.lemmas.Iterator.{YieldsList-from_slice}
use Rattle.std.proofs.lemmas.Iterator.Search.{all_from_yields_List}
use Rattle.contracts.specs.Identifier.{identifier_byte, well_formed}
use Rattle.contracts.proofs.Identifiers.{bytes-all}
use Rattle.contracts.proofs.identifier.well_formed.Goals as goal

pub returns-then-contains : goal.returns-then-contains
unfolding well_formed
returns-then-contains c =
    let s = c.args.identifier.now in
    let told : c.all.result ≡ list_all identifier_byte s = all_from_yields_List identifier_byte _ _ c.all.result c.all.ensures.ran (YieldsList-from_slice s cc) (λ x b q k. search (rules, tests)) in
    let long : c.contains.result ≡ (leb 1 (length s) && leb (length s) 16) = search (rules, tests) in
    rw (← long, c.if-contains.true, told) (bytes-all s)

pub returns-else-contains : goal.returns-else-contains
unfolding well_formed
returns-else-contains c =
    let s = c.args.identifier.now in
    let long : c.contains.result ≡ (leb 1 (length s) && leb (length s) 16) = search (rules, tests) in
    rw (← long, c.if-contains.false)
