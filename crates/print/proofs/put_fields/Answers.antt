-- `print::put_fields` meets its contract. The loop's invariant: the numbers passed are put, in at most 21 bytes each.
-- Assumes nothing.
use native.Mathlib.Omega.{arith}
use Rattle.print.proofs.FieldLaws.{no-numbers, number_more}
use Rattle.print.proofs.put_fields.Goals as goal

pub loop-number-init : goal.loop-number-init
loop-number-init c = no-numbers _ (omega arith) (omega arith)

pub loop-number-preserved : goal.loop-number-preserved
loop-number-preserved c =
    let put = c.put_field-next.ensures in
    let l = c.loop-number in
    number_more _ l.number-index c.loop-number-test.true l.invariant put.wrote put.short
