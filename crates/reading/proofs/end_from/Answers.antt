-- `reading::end_from` meets its contract: each field is that of the line. Assumes nothing.
use Rattle.std.proofs.Common.{eq-eqb, ne_eqb}
use Rattle.reading.specs.Line.{end_of}
use Rattle.reading.proofs.end_from.Goals as goal

pub returns-then-count-ne1 : goal.returns-then-count-ne1
unfolding end_of
returns-then-count-ne1 c = rw (← c.count.ensures, ne_eqb _ _ c.if-count-ne1.true)

pub returns : goal.returns
unfolding end_of
returns c = rw (← c.count.ensures, eq-eqb _ _ c.if-count-ne1.false)
