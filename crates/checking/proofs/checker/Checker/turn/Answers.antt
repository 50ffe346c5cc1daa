-- `checking::checker::Checker::turn` meets its contract. Assumes nothing.
use Rattle.std.proofs.Common.{ap, rules}
use Rattle.judging.specs.Kept.{kept_in}
use Rattle.checking.specs.Checker.{standing}
use Rattle.checking.specs.declared.checker.Checker.{Checker}
use Rattle.checking.proofs.checker.Checker.turn.Goals as goal

pub returns-in-Empty-clause-is : goal.returns-in-Empty-clause-is
returns-in-Empty-clause-is c = λ number. rw c.in-Empty.is (ap (λ (k : Checker). standing k (kept_in c.args.kept.now)) (c.first.ensures number))

pub returns-in-Open-clause-is : goal.returns-in-Open-clause-is
returns-in-Open-clause-is c = λ number. rw c.in-Open.is (c.next.ensures.is number)

pub returns-in-Ended-clause-is : goal.returns-in-Ended-clause-is
returns-in-Ended-clause-is c = λ number. rw c.in-Ended.is (c.later.ensures.is number)

pub returns-in-Stopped-clause-is : goal.returns-in-Stopped-clause-is
returns-in-Stopped-clause-is c = λ number. rw c.in-Stopped.is
