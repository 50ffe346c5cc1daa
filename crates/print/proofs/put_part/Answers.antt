-- `print::put_part` meets its contract.
-- Assumes nothing.
use Rattle.print.proofs.Writing.{join}
use Rattle.print.proofs.put_part.Goals as goal

pub returns : goal.returns
returns c = join c.put-next.ensures (rw c.from.ensures at c.put_two.ensures)
