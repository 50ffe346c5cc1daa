-- `fields::split::tab_from` meets its contract. Assumes nothing.
use Rattle.std.proofs.Common.{rules, tests, ℕ, ◌+◌, ◌≡◌, ◌∙◌, length, nat_eq}
use Rattle.std.specs.Option.{MatchOption}
use Rattle.std.specs.List.{position}
use Rattle.std.proofs.lemmas.Iterator.{YieldsList-from_slice}
use Rattle.std.proofs.lemmas.Iterator.Search.{position_from_yields_List}
use lib.ListN.{drop}
use Rattle.fields.proofs.DigitLaws.{to_end}
use Rattle.fields.specs.Split.{Ends}
use Rattle.fields.proofs.TabLaws.{ends_where}
use Rattle.fields.proofs.split.tab_from.Goals.{After-position}
use Rattle.fields.proofs.split.tab_from.Goals as goal

told : (c : After-position) → MatchOption c.position.result (Ends c.args.line.now c.args.from (length c.args.line.now)) (λ n. Ends c.args.line.now c.args.from (c.args.from + n))
told c =
    let found : c.position.result ≡ position (λ (x : ℕ). nat_eq x 9) (drop c.args.from c.args.line.now) =
    position_from_yields_List {all = drop c.args.from c.args.line.now} (λ (x : ℕ). nat_eq x 9) _ _ c.position.result c.position.ensures.ran (YieldsList-from_slice _ (c.iter.ensures.rest ∙ to_end c.args.line.now c.args.from)) (λ x b q k. search (rules, tests)) in
    ends_where c.args.line.now c.args.from c.requires c.position.result found

pub returns-in-Some : goal.returns-in-Some
returns-in-Some c = let t = told (goal.at.returns-in-Some c).After-position in rw c.in-Some.is at t

pub returns-in-None : goal.returns-in-None
returns-in-None c = let t = told (goal.at.returns-in-None c).After-position in rw c.in-None.is at t
