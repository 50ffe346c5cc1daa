-- `checking::checker::Checker::new` meets its contract. Assumes nothing.
use Rattle.std.proofs.Common.{ap, ◌∙◌}
use Rattle.checking.specs.Checker.{checker_at, empty_checker}
use Rattle.checking.specs.declared.checker.Stage.TheVariants.{Empty}
use Rattle.checking.proofs.checker.Checker.new.Goals as goal

pub returns : goal.returns
unfolding empty_checker
returns c = c.at.ensures ∙ ap (checker_at Empty) c.unopened.ensures
