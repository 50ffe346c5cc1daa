-- `fields::number::below_zero` meets its contract: 18 digits fit with a minus, too. Assumes nothing.
use Rattle.std.proofs.Common.{Some, sym, ap, ◌∙◌}
use Rattle.fields.specs.Numbers.{negative}
use Rattle.fields.proofs.SignLaws.{unsigned-fits, less-fits, less-is, negative-is}
use Rattle.fields.proofs.number.below_zero.Goals as goal

pub overflow_cast-result : goal.overflow_cast-result
overflow_cast-result c = record { sfits = unsigned-fits _ _ _ (sym c.in_ok-value.ensures) }

pub overflow_sub-result : goal.overflow_sub-result
overflow_sub-result c = less-fits _ (unsigned-fits _ _ _ (sym c.in_ok-value.ensures))

pub returns : goal.returns
returns c =
    ap Some (less-is _ (unsigned-fits _ _ _ (sym c.in_ok-value.ensures)))
    ∙ sym (negative-is _ c.if-value-eq0.false)
    ∙ ap negative c.in_ok-value.ensures
