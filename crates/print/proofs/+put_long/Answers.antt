-- `print::put_long` meets its contract: the digits of what is left without the last four, then those four. Each call is on a smaller number.
-- Assumes nothing.
use Rattle.print.proofs.Digits.{digits-myriad}
use Rattle.print.proofs.Writing.{join}
use Rattle.print.proofs.+put_long.Goals as goal

pub returns : goal.returns
returns t c = rw (digits-myriad c.args.n c.if-n-lt10000.false) (join c.put_long-low.ensures c.put_four.ensures)
