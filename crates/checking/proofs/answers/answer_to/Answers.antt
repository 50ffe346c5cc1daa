-- `checking::answers::answer_to` meets its contract. Assumes nothing.
use Rattle.std.proofs.Common.{rules}
use Rattle.checking.proofs.answers.answer_to.Goals as goal

pub returns-in-Settling : goal.returns-in-Settling
returns-in-Settling c = rw c.in-Settling.is c.line_answer.ensures

pub returns-in-Share : goal.returns-in-Share
returns-in-Share c = rw (c.in-Share.is, c.early_refusal.ensures, c.whose.ensures)
