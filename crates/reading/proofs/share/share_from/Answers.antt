-- `reading::share::share_from` meets its contract: each field is that of the line. Assumes nothing.
use Rattle.std.proofs.Common.{rules, eq-eqb, ne_eqb}
use Rattle.reading.specs.Share.{share_of}
use Rattle.reading.proofs.share.share_from.Goals as goal

pub returns-then-count-ne5 : goal.returns-then-count-ne5
unfolding share_of
returns-then-count-ne5 c = rw (← c.count.ensures, ne_eqb _ _ c.if-count-ne5.true)

pub returns-in_default : goal.returns-in_default
unfolding share_of
returns-in_default c = rw (← c.count.ensures, eq-eqb _ _ c.if-count-ne5.false, ← c.in_default.ensures)

pub returns-in_default-direction_of : goal.returns-in_default-direction_of
unfolding share_of
returns-in_default-direction_of c =
    rw (
      ← c.count.ensures,
      eq-eqb _ _ c.if-count-ne5.false,
      ← c.in-Some.ensures,
      ← c.field.ensures,
      ← c.in_default-direction_of.ensures,
    )

pub returns-in_default-number : goal.returns-in_default-number
unfolding share_of
returns-in_default-number c =
    rw (
      ← c.count.ensures,
      eq-eqb _ _ c.if-count-ne5.false,
      ← c.in-Some.ensures,
      ← c.field.ensures,
      ← c.in-Some-direction_of.ensures,
      ← c.in_default-number.ensures,
    )

pub returns : goal.returns
unfolding share_of
returns c =
    rw (
      ← c.count.ensures,
      eq-eqb _ _ c.if-count-ne5.false,
      ← c.in-Some.ensures,
      ← c.field.ensures,
      ← c.in-Some-direction_of.ensures,
      ← c.in-Some-number.ensures,
    ) (search rules)
