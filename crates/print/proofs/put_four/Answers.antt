-- `print::put_four` meets its contract.
-- Assumes nothing.
use Rattle.print.proofs.Writing.{join}
use Rattle.print.specs.Decimal.{four_digits}
use Rattle.print.proofs.put_four.Goals as goal

pub returns : goal.returns
unfolding four_digits
returns c = join c.put_two-low.ensures c.put_two.ensures
