-- `samples::field_at` meets its contract, by the power there and the byte behind it. Assumes nothing.
use Rattle.std.proofs.Common.{refl}
use Rattle.samples.proofs.FieldScan.{no_power, no_end, ended-field}
use Rattle.samples.proofs.field_at.Goals as goal

pub returns-in_err-power : goal.returns-in_err-power
returns-in_err-power c = rw c.from_residual.ensures (no_power c.requires.end_bound c.in_err-power.ensures)

pub bounds-bytes-power : goal.bounds-bytes-power
bounds-bytes-power c = (c.in_ok-power.ensures.sound _ refl).stands.within

pub returns-then-bytes-power : goal.returns-then-bytes-power
returns-then-bytes-power c = no_end c.requires.end_bound c.in_ok-power.ensures c.if-bytes-power.true

pub returns : goal.returns
returns c = ended-field c.requires.end_bound c.in_ok-power.ensures c.if-bytes-power.false
