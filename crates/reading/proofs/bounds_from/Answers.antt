-- `reading::bounds_from` meets its contract: each field is that of the line. Assumes nothing.
use Rattle.std.proofs.Common.{rules, eq-eqb, ne_eqb}
use Rattle.reading.specs.Line.{bounds_of}
use Rattle.reading.proofs.bounds_from.Goals as goal

pub returns-then-count-ne3 : goal.returns-then-count-ne3
unfolding bounds_of
returns-then-count-ne3 c = rw (← c.count.ensures, ne_eqb _ _ c.if-count-ne3.true)

pub returns-in_default : goal.returns-in_default
unfolding bounds_of
returns-in_default c = rw (← c.count.ensures, eq-eqb _ _ c.if-count-ne3.false, ← c.field.ensures, ← c.in_default.ensures)

pub returns-in_default-long_number_of : goal.returns-in_default-long_number_of
unfolding bounds_of
returns-in_default-long_number_of c =
    rw (
      ← c.count.ensures,
      eq-eqb _ _ c.if-count-ne3.false,
      ← c.field.ensures,
      ← c.in-Some.ensures,
      ← c.field-2.ensures,
      ← c.in_default-long_number_of.ensures,
    )

pub returns : goal.returns
unfolding bounds_of
returns c =
    rw (
      ← c.count.ensures,
      eq-eqb _ _ c.if-count-ne3.false,
      ← c.field.ensures,
      ← c.in-Some.ensures,
      ← c.field-2.ensures,
      ← c.in-Some-long_number_of.ensures,
    ) (search rules)
