-- `checking::checker::taking` meets its contract. Assumes nothing.
use Rattle.std.proofs.Common.{◌∙◌, rules}
use Rattle.judging.specs.Kept.{kept_in}
use Rattle.checking.proofs.AnswerLaws.{quarter-parts}
use Rattle.checking.proofs.checker.taking.Goals as goal

pub returns-clause-is : goal.returns-clause-is
returns-clause-is c = quarter-parts (kept_in c.args.kept.now) c.args.run ∙ rw (c.keep.ensures.is, c.take-taken.ensures)
