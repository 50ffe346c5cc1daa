-- `samples::row_at` meets its contract, by the field after the tab. Assumes nothing.
use Rattle.std.proofs.Common.{refl, arith, to_z-of_z}
use Rattle.samples.proofs.PairScan.{no-actual, a-row}
use Rattle.samples.proofs.FieldScan.{field-within}
use Rattle.samples.proofs.PowerForm.{range_back}
use Rattle.samples.proofs.row_at.Goals as goal

pub returns-in_err-actual : goal.returns-in_err-actual
returns-in_err-actual c = rw c.from_residual.ensures (no-actual c.in_err-actual.ensures)

pub overflow_add-result : goal.overflow_add-result
overflow_add-result c = omega (arith, field-within (c.in_ok-actual.ensures.sound _ refl))

pub returns : goal.returns
returns c =
    let p = c.in_ok-actual.ensures in
    rw (to_z-of_z c.ranges.setpoint, range_back _ (p.sound _ refl).ranged) (a-row p)
