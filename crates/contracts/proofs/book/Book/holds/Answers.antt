-- `contracts::book::Book::holds` meets its contract.
-- Assumes nothing.
use Rattle.std.proofs.Common.{rules, tests, ◌≡◌, ◌∙◌, ap, nat_eq}
use Rattle.std.specs.Cmp.Lexicographic.{pointwise}
use Rattle.std.specs.List.{list_any}
use Rattle.std.proofs.lemmas.Iterator.{YieldsList-from_slice}
use Rattle.std.proofs.lemmas.Iterator.Search.{any_from_yields_List}
use Rattle.contracts.specs.Book.{holds}
use Rattle.contracts.specs.declared.book.Awarded.{Awarded}
use Rattle.contracts.proofs.Looking.{holds-any}
use Rattle.contracts.proofs.book.Book.holds.Goals as goal

pub returns : goal.returns
returns c =
    let bytes = c.args.identifier in
    let found : c.any.result ≡ list_any (λ (x : Awarded). pointwise nat_eq x.identifier bytes) c.given.result.now =
    any_from_yields_List (λ (x : Awarded). pointwise nat_eq x.identifier bytes) _ _ c.any.result c.any.ensures.ran (YieldsList-from_slice _ cc) (λ x b q k. search (rules, tests)) in
    found ∙ holds-any bytes c.given.result.now ∙ ap (holds bytes) c.given.ensures.listed
