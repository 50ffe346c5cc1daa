-- `print::put_count` meets its contract: one digit, or more.
-- Assumes nothing.
use Rattle.print.proofs.Digits.{digits-one}
use Rattle.print.proofs.put_count.Goals as goal

pub returns-then-n-lt10 : goal.returns-then-n-lt10
returns-then-n-lt10 c = rw (digits-one c.args.n c.if-n-lt10.true) c.put.ensures
