-- `reading::read` meets its contract, by the kind of the line. Assumes nothing.
use Rattle.std.proofs.Common.{lt-ltb, le-ltb}
use Rattle.reading.specs.Line.{line_of}
use Rattle.reading.proofs.read.Goals as goal

pub returns-then-line-gt80 : goal.returns-then-line-gt80
unfolding line_of
returns-then-line-gt80 c = rw (lt-ltb _ _ c.if-line-gt80.true)

pub returns-in-Header : goal.returns-in-Header
unfolding line_of
returns-in-Header c = rw (le-ltb _ _ c.if-line-gt80.false, ← c.of-line.ensures, ← c.field.ensures, ← c.in-Header.ensures) c.header_from.ensures

pub returns-in-Bounds : goal.returns-in-Bounds
unfolding line_of
returns-in-Bounds c = rw (le-ltb _ _ c.if-line-gt80.false, ← c.of-line.ensures, ← c.field.ensures, ← c.in-Bounds.ensures) c.bounds_from.ensures

pub returns-in-Setpoint : goal.returns-in-Setpoint
unfolding line_of
returns-in-Setpoint c = rw (le-ltb _ _ c.if-line-gt80.false, ← c.of-line.ensures, ← c.field.ensures, ← c.in-Setpoint.ensures) c.setpoint_from.ensures

pub returns-in-Contract : goal.returns-in-Contract
unfolding line_of
returns-in-Contract c = rw (le-ltb _ _ c.if-line-gt80.false, ← c.of-line.ensures, ← c.field.ensures, ← c.in-Contract.ensures) c.contract_from.ensures

pub returns-in-Sample : goal.returns-in-Sample
unfolding line_of
returns-in-Sample c = rw (le-ltb _ _ c.if-line-gt80.false, ← c.of-line.ensures, ← c.field.ensures, ← c.in-Sample.ensures) c.sample_from.ensures

pub returns-in-End : goal.returns-in-End
unfolding line_of
returns-in-End c = rw (le-ltb _ _ c.if-line-gt80.false, ← c.of-line.ensures, ← c.field.ensures, ← c.in-End.ensures) c.end_from.ensures

pub returns-in-Unknown : goal.returns-in-Unknown
unfolding line_of
returns-in-Unknown c = rw (le-ltb _ _ c.if-line-gt80.false, ← c.of-line.ensures, ← c.field.ensures, ← c.in-Unknown.ensures)
