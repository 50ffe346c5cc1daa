-- `fields::number::digits_of` meets its contract. The loop's invariant: `value` and the digits from the next byte on say the same as all of them, and `value` has as
-- many digits as were read. Assumes nothing.
use Rattle.std.proofs.Common.{refl, sym, ◌∙◌, arith, add-one}
use Rattle.fields.specs.Numbers.{digits_of}
use Rattle.fields.proofs.DigitLaws.{other-at, more-at, ended_at, bounded, one_more}
use Rattle.fields.proofs.number.digits_of.Goals as goal

pub loop-byte-init : goal.loop-byte-init
unfolding digits_of
loop-byte-init c = (omega arith, refl)

pub returns-then-not-is_ascii_digit : goal.returns-then-not-is_ascii_digit
returns-then-not-is_ascii_digit c =
    sym (c.loop-byte.invariant.1 ∙ other-at _ _ _ c.loop-byte-test.true (sym c.if-not-is_ascii_digit.ensures.value))

pub overflow_mul-value : goal.overflow_mul-value
overflow_mul-value c = omega (arith, bounded _ _ 17 c.loop-byte.invariant.0 (omega arith))

pub overflow_add-value : goal.overflow_add-value
overflow_add-value c = omega (arith, c.if-not-is_ascii_digit.ensures.cases, bounded _ _ 17 c.loop-byte.invariant.0 (omega arith))

pub loop-byte-preserved : goal.loop-byte-preserved
loop-byte-preserved c = (
  rw (add-one c.loop-byte.byte-index) (one_more _ _ _ c.loop-byte.invariant.0 (omega (arith, c.if-not-is_ascii_digit.ensures.cases))),
  c.loop-byte.invariant.1 ∙ rw c.from.ensures (more-at _ _ _ c.loop-byte-test.true (sym c.if-not-is_ascii_digit.ensures.value)),
)

pub returns : goal.returns
returns c = sym (c.loop-byte.invariant.1 ∙ ended_at _ _ _ c.loop-byte-test.false)
