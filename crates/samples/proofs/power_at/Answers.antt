-- `samples::power_at` meets its contract, by whether a minus stands there. Assumes nothing.
use Rattle.std.proofs.Common.{refl}
use Rattle.samples.proofs.PowerForm.{plain-none, plain-some, value-is, value-fits}
use Rattle.samples.proofs.power_at.Goals as goal

pub returns-in_err-read : goal.returns-in_err-read
returns-in_err-read c = rw c.from_residual.ensures (plain-none c.if-bytes-from-eq45.false c.in_err-read.ensures)

pub overflow_cast-result : goal.overflow_cast-result
overflow_cast-result c = value-fits (c.in_ok-read.ensures.sound _ refl).small

pub returns : goal.returns
returns c = plain-some c.if-bytes-from-eq45.false (value-is (c.in_ok-read.ensures.sound _ refl).small) c.in_ok-read.ensures
