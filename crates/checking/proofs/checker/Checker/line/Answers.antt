-- `checking::checker::Checker::line` meets its contract. Assumes nothing.
use Rattle.checking.specs.Checker.{stopped_by, line_turn}
use Rattle.checking.proofs.checker.Checker.line.Goals as goal

pub returns-in-Err-clause-is : goal.returns-in-Err-clause-is
unfolding line_turn stopped_by
returns-in-Err-clause-is c = c.in-Err.ensures.is c.args.number

pub returns-in_default-clause-is : goal.returns-in_default-clause-is
unfolding line_turn
returns-in_default-clause-is c = c.in_default.ensures.is c.args.number
