-- `contracts::book::Book::below_last` meets its contract.
-- Assumes nothing.
use Rattle.std.proofs.Common.{rules, tests, Bor, Option, Some, None, Bool, false, ℤ, List, length, ◌≡◌, ◌-◌, ◌<◌, ◌≤◌, sym, ap, ◌∙◌}
use Rattle.std.specs.Option.{MatchOption}
use Rattle.std.specs.Slice.{IsGetResult}
use borrow.Author.Tests.{ltb-true, ltb-false}
use lib.Signed.{lt_z}
use mir.Facts.{to_z-of_z}
use Rattle.contracts.specs.Book.{below_last}
use Rattle.contracts.specs.declared.book.Awarded.{Awarded}
use Rattle.contracts.proofs.Looking.{none_before, before_last}
use Rattle.contracts.proofs.book.Book.below_last.Goals as goal

-- what is said of the last contract, if there is one, is said of the list
of_list : (price : ℤ) (cs : List Awarded) (o : Option (Bor Awarded)) (r : Bool) (P : Bor Awarded → Type 0) → IsGetResult cs 0 (length cs - 1) o → MatchOption o (r ≡ false) P → ((x : Bor Awarded) → P x → r ≡ lt_z price x.now.price) → r ≡ below_last price cs
of_list price cs None r P g m said =
    let none : length cs ≤ 0 = ltb-false 0 (length cs) (sym g.0) in
    m ∙ sym (none_before price cs none)
of_list price cs (Some x) r P g m said =
    let some : 0 < length cs = ltb-true 0 (length cs) (sym g.0) in
    said x m ∙ ap (λ (last : Awarded). lt_z price last.price) g.1 ∙ sym (before_last price cs x.now some)

pub returns : goal.returns
returns c =
    of_list c.args.price c.given.result.now c.last.result c.is_some_and.result _ c.last.ensures.item c.is_some_and.ensures (λ x p. rw (← to_z-of_z c.ranges.price) (search (rules, tests)))
    ∙ ap (below_last c.args.price) c.given.ensures.listed
