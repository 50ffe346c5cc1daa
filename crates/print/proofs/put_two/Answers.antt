-- `print::put_two` meets its contract.
-- Assumes nothing.
use Rattle.print.proofs.Writing.{join}
use Rattle.print.specs.Decimal.{two_digits}
use Rattle.print.proofs.put_two.Goals as goal

pub returns : goal.returns
unfolding two_digits
returns c = join c.put-ones.ensures c.put.ensures
