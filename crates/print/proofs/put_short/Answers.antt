-- `print::put_short` meets its contract: one, two, three or four digits, by the size of the number.
-- Assumes nothing.
use Rattle.print.proofs.Digits.{digits-one, digits-two, digits-three, digits-four}
use Rattle.print.proofs.Writing.{join}
use Rattle.print.proofs.put_short.Goals as goal

pub returns-then-n-lt10 : goal.returns-then-n-lt10
returns-then-n-lt10 c = rw (digits-one c.args.n c.if-n-lt10.true) c.put.ensures

pub returns-then-n-lt100 : goal.returns-then-n-lt100
returns-then-n-lt100 c = rw (digits-two c.args.n c.if-n-lt10.false c.if-n-lt100.true) c.put_two.ensures

pub returns-then-n-lt1000 : goal.returns-then-n-lt1000
returns-then-n-lt1000 c =
    rw (digits-three c.args.n c.if-n-lt100.false c.if-n-lt1000.true)
    (join c.put-tens.ensures c.put_two-then-n-lt1000.ensures)

pub returns-else-n-lt1000 : goal.returns-else-n-lt1000
returns-else-n-lt1000 c = rw (digits-four c.args.n c.if-n-lt1000.false c.requires) c.put_four.ensures
