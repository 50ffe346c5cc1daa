-- `reading::sample_from` meets its contract: each field is that of the line. Assumes nothing.
use Rattle.std.proofs.Common.{rules, eq-eqb, ne_eqb}
use Rattle.reading.specs.Line.{sample_of}
use Rattle.reading.proofs.sample_from.Goals as goal

pub returns-then-count-ne3 : goal.returns-then-count-ne3
unfolding sample_of
returns-then-count-ne3 c = rw (← c.count.ensures, ne_eqb _ _ c.if-count-ne3.true)

pub returns-in_default : goal.returns-in_default
unfolding sample_of
returns-in_default c = rw (← c.count.ensures, eq-eqb _ _ c.if-count-ne3.false, ← c.in_default.ensures)

pub returns-in_default-number : goal.returns-in_default-number
unfolding sample_of
returns-in_default-number c = rw (← c.count.ensures, eq-eqb _ _ c.if-count-ne3.false, ← c.in-Some.ensures, ← c.in_default-number.ensures)

pub returns : goal.returns
unfolding sample_of
returns c =
    rw (
      ← c.count.ensures,
      eq-eqb _ _ c.if-count-ne3.false,
      ← c.in-Some.ensures,
      ← c.in-Some-number.ensures,
    ) (search rules)
