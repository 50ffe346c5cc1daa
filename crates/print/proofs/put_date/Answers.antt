-- `print::put_date` meets its contract.
-- Assumes nothing.
use Rattle.print.proofs.Writing.{join}
use Rattle.print.specs.Decimal.{date_text}
use Rattle.print.proofs.put_date.Goals as goal

pub returns : goal.returns
unfolding date_text
returns c = join (join c.put_four-month.ensures c.put_part-day.ensures) c.put_part.ensures
