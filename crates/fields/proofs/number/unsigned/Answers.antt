-- `fields::number::unsigned` meets its contract, test by test. Assumes nothing.
use Rattle.std.proofs.Common.{eq-eqb, ne_eqb, lt-ltb, le-ltb}
use Rattle.fields.specs.Numbers.{unsigned_of}
use Rattle.fields.proofs.number.unsigned.Goals.{then-len-eq0-via-then-len-eq0, then-len-eq0-via-else-len-eq0+then-most-len, then-len-eq0-via-else-len-eq0+else-most-len+then-len-gt18, else-len-ne1-via-then-len-ne1+else-bytes-eq48, else-len-ne1-via-else-len-ne1}
use Rattle.fields.proofs.number.unsigned.Goals as goal

pub returns-then-len-eq0 : goal.returns-then-len-eq0
unfolding unsigned_of
returns-then-len-eq0 c =
    elim c.then-len-eq0.branch [
      | then-len-eq0-via-then-len-eq0 w ↦ rw (eq-eqb _ _ w.if-len-eq0.true)
      | then-len-eq0-via-else-len-eq0+then-most-len w ↦ rw (ne_eqb _ _ w.if-len-eq0.false, lt-ltb _ _ w.if-most-len.true)
      | then-len-eq0-via-else-len-eq0+else-most-len+then-len-gt18 w ↦ rw (ne_eqb _ _ w.if-len-eq0.false, le-ltb _ _ w.if-most-len.false, lt-ltb _ _ w.if-len-gt18.true)
    ]

pub returns-then-bytes-eq48 : goal.returns-then-bytes-eq48
unfolding unsigned_of
returns-then-bytes-eq48 c =
    rw (
      ne_eqb _ _ c.if-len-eq0.false,
      le-ltb _ _ c.if-most-len.false,
      le-ltb _ _ c.if-len-gt18.false,
      ne_eqb _ _ c.if-len-ne1.true,
      eq-eqb _ _ c.if-bytes-eq48.true,
    )

pub returns : goal.returns
unfolding unsigned_of
returns c =
    elim c.else-len-ne1.branch [
      | else-len-ne1-via-then-len-ne1+else-bytes-eq48 w ↦ rw (
        ne_eqb _ _ c.if-len-eq0.false,
        le-ltb _ _ c.if-most-len.false,
        le-ltb _ _ c.if-len-gt18.false,
        ne_eqb _ _ w.if-len-ne1.true,
        ne_eqb _ _ w.if-bytes-eq48.false,
      ) c.digits_of.ensures
      | else-len-ne1-via-else-len-ne1 w ↦ rw (
        ne_eqb _ _ c.if-len-eq0.false,
        le-ltb _ _ c.if-most-len.false,
        le-ltb _ _ c.if-len-gt18.false,
        eq-eqb _ _ w.if-len-ne1.false,
      ) c.digits_of.ensures
    ]
