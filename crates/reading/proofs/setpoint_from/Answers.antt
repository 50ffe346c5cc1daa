-- `reading::setpoint_from` meets its contract: each field is that of the line. Assumes nothing.
use Rattle.std.proofs.Common.{rules, eq-eqb, ne_eqb}
use Rattle.reading.specs.Line.{setpoint_of}
use Rattle.reading.proofs.setpoint_from.Goals as goal

pub returns-then-count-ne2 : goal.returns-then-count-ne2
unfolding setpoint_of
returns-then-count-ne2 c = rw (← c.count.ensures, ne_eqb _ _ c.if-count-ne2.true)

pub returns-in_default : goal.returns-in_default
unfolding setpoint_of
returns-in_default c = rw (← c.count.ensures, eq-eqb _ _ c.if-count-ne2.false, ← c.in_default.ensures)

pub returns : goal.returns
unfolding setpoint_of
returns c = rw (← c.count.ensures, eq-eqb _ _ c.if-count-ne2.false, ← c.in-Some.ensures) (search rules)
