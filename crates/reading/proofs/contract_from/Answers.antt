-- `reading::contract_from` meets its contract: each field is that of the line. Assumes nothing.
use Rattle.std.proofs.Common.{rules, eq-eqb, ne_eqb}
use Rattle.reading.specs.Line.{contract_of}
use Rattle.reading.proofs.contract_from.Goals as goal

pub returns-then-count-ne5 : goal.returns-then-count-ne5
unfolding contract_of
returns-then-count-ne5 c = rw (← c.count.ensures, ne_eqb _ _ c.if-count-ne5.true)

pub returns-in_default : goal.returns-in_default
unfolding contract_of
returns-in_default c = rw (← c.count.ensures, eq-eqb _ _ c.if-count-ne5.false, ← c.field.ensures, ← c.in_default.ensures)

pub returns-in_default-number : goal.returns-in_default-number
unfolding contract_of
returns-in_default-number c =
    rw (
      ← c.count.ensures,
      eq-eqb _ _ c.if-count-ne5.false,
      ← c.field.ensures,
      ← c.in-Some.ensures,
      ← c.in_default-number.ensures,
    )

pub returns-in_default-number-2 : goal.returns-in_default-number-2
unfolding contract_of
returns-in_default-number-2 c =
    rw (
      ← c.count.ensures,
      eq-eqb _ _ c.if-count-ne5.false,
      ← c.field.ensures,
      ← c.in-Some.ensures,
      ← c.in-Some-number.ensures,
      ← c.in_default-number-2.ensures,
    )

pub returns : goal.returns
unfolding contract_of
returns c =
    rw (
      ← c.count.ensures,
      eq-eqb _ _ c.if-count-ne5.false,
      ← c.field.ensures,
      ← c.in-Some.ensures,
      ← c.in-Some-number.ensures,
      ← c.in-Some-number-2.ensures,
    ) (search rules)
