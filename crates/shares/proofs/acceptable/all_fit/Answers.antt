-- `shares::acceptable::all_fit` meets its contract.
-- Assumes nothing.
use Rattle.std.proofs.Common.{rules, ◌∙◌}
use borrow.Author.Tests.{tests}
use Rattle.std.proofs.lemmas.Iterator.{YieldsList-from_slice, YieldsList-from_zip}
use Rattle.std.proofs.lemmas.Iterator.Search.{all_from_yields_List}
use Rattle.shares.proofs.Acceptance.{pair_fits, pairs-fit}
use Rattle.shares.proofs.acceptable.all_fit.Goals as goal

pub returns : goal.returns
returns c =
    let a = c.args in
    all_from_yields_List (pair_fits a.handed a.total) c.all.new.self _ _ c.all.ensures.ran
    (YieldsList-from_zip (YieldsList-from_slice a.gaps cc) (YieldsList-from_slice a.shares cc)) (λ x b q k. search (rules, tests))
    ∙ pairs-fit a.handed a.total a.gaps a.shares (search rules)
