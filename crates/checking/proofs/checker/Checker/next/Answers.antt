-- `checking::checker::Checker::next` meets its contract. Assumes nothing.
use Rattle.std.proofs.Common.{◌∙◌, rules}
use Rattle.judging.specs.Kept.{kept_in}
use Rattle.reading.specs.Share.{asked_of}
use Rattle.checking.proofs.AnswerLaws.{next-parts}
use Rattle.checking.proofs.checker.Checker.next.Goals as goal

pub returns-in_err-answer-clause-is : goal.returns-in_err-answer-clause-is
returns-in_err-answer-clause-is c =
    let a = c.args in
    λ number.
    next-parts (kept_in a.kept.now) a.self.now.run number a.line.now (asked_of a.line.now)
    ∙ rw (← c.read_asked-asked.ensures, ← c.answer_to-answer.ensures, c.in_err-answer.was) (search rules)

pub returns-clause-is : goal.returns-clause-is
returns-clause-is c =
    let a = c.args in
    λ number.
    next-parts (kept_in a.kept.now) a.self.now.run number a.line.now (asked_of a.line.now)
    ∙ rw (← c.read_asked-asked.ensures, ← c.answer_to-answer.ensures, c.in_ok-answer.was) c.following.ensures.is
