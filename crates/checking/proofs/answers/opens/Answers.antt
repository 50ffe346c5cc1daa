-- `checking::answers::opens` meets its contract. Assumes nothing.
use Rattle.std.proofs.Common.{rules}
use Rattle.checking.proofs.answers.opens.Goals as goal

pub returns-in-Settling : goal.returns-in-Settling
returns-in-Settling c = rw (← c.in-Settling.ensures) c.opening_line.ensures

pub returns-in-Share : goal.returns-in-Share
returns-in-Share c = rw (← c.in-Share.ensures)
