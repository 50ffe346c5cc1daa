-- `print::put_number` meets its contract, by the sign.
-- Assumes nothing.
use Rattle.print.proofs.Digits.{text-negative, text-plain}
use Rattle.print.proofs.Writing.{join}
use mir.Facts.{to_z-of_z}
use Rattle.print.proofs.put_number.Goals as goal

pub returns-then-n-lt0 : goal.returns-then-n-lt0
returns-then-n-lt0 c =
    rw (text-negative c.args.n (rw (to_z-of_z c.ranges.n) at c.if-n-lt0.true))
    (join c.put-first.ensures (rw (c.unsigned_abs-size.ensures.value, to_z-of_z c.ranges.n) at c.put_count.ensures))

pub returns-else-n-lt0 : goal.returns-else-n-lt0
returns-else-n-lt0 c =
    rw (text-plain c.args.n (rw (to_z-of_z c.ranges.n) at c.if-n-lt0.false))
    (rw (c.unsigned_abs-size.ensures.value, to_z-of_z c.ranges.n) at c.put_count-else-n-lt0.ensures)
