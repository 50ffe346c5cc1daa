-- `samples::pair_at` meets its contract: a setpoint and the rest of its row, or no two powers in range. Assumes nothing.
use Rattle.std.proofs.Common.{refl}
use Rattle.samples.proofs.PowerForm.{range_back}
use Rattle.samples.proofs.FieldScan.{after-tab}
use Rattle.samples.proofs.PairScan.{no-setpoint, by_row}
use Rattle.samples.proofs.pair_at.Goals as goal

pub returns-in_err-setpoint : goal.returns-in_err-setpoint
returns-in_err-setpoint c = rw c.from_residual.ensures (no-setpoint c.in_err-setpoint.ensures)

pub row_at-requires : goal.row_at-requires
row_at-requires c = after-tab c.requires (c.in_ok-setpoint.ensures.sound _ refl)

pub returns : goal.returns
returns c =
    let f = c.in_ok-setpoint.ensures.sound _ refl in
    by_row f (rw (range_back _ f.ranged) at c.row_at.ensures)
