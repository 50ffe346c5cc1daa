-- `fields::number::long_number_of` meets its contract, by the first byte. Assumes nothing.
use Rattle.std.proofs.Common.{◌≡◌, ℕ, List, Some, sym, ap, ◌∙◌}
use Rattle.std.proofs.lemmas.Bool.{eqb-true, eqb-false}
use mir.Facts.{to_z_pos}
use mir.Syntax.{w64}
use Rattle.fields.specs.Numbers.{negative, plain, unsigned_of, long_number_of}
use Rattle.fields.proofs.SignLaws.{unsigned-fits, empty, minus, no_minus}
use Rattle.fields.proofs.DigitLaws.{to_end}
use Rattle.fields.proofs.number.long_number_of.Goals.{After-unsigned, else-not-is_empty-via-then-not-is_empty+else-field-eq45, else-not-is_empty-via-else-not-is_empty}
use Rattle.fields.proofs.number.long_number_of.Goals as goal

pub returns-then-field-eq45 : goal.returns-then-field-eq45
returns-then-field-eq45 c =
    c.below_zero.ensures
    ∙ ap (λ (l : List ℕ). negative (unsigned_of c.args.most l)) (to_end c.args.field.now 1)
    ∙ sym (minus _ _ (eqb-false _ _ (sym c.if-not-is_empty.ensures)) c.if-field-eq45.true)

-- with no minus before it, a field is a number of no sign
plainly : (c : After-unsigned) → plain (unsigned_of c.args.most c.args.field.now) ≡ long_number_of c.args.most c.args.field.now
plainly c =
    elim c.else-not-is_empty.branch [
      | else-not-is_empty-via-then-not-is_empty+else-field-eq45 w ↦ sym (no_minus _ _ (eqb-false _ _ (sym w.if-not-is_empty.ensures)) w.if-field-eq45.false)
      | else-not-is_empty-via-else-not-is_empty w ↦ sym (empty _ _ (eqb-true _ _ (sym w.if-not-is_empty.ensures)))
    ]

pub returns-in_err-unsigned : goal.returns-in_err-unsigned
returns-in_err-unsigned c = c.from_residual.ensures ∙ ap plain c.in_err-unsigned.ensures ∙ plainly (goal.at.returns-in_err-unsigned c).After-unsigned

pub overflow_cast-result : goal.overflow_cast-result
overflow_cast-result c = record { sfits = unsigned-fits _ _ _ (sym c.in_ok-unsigned.ensures) }

pub returns : goal.returns
returns c =
    ap Some (to_z_pos w64 (unsigned-fits _ _ _ (sym c.in_ok-unsigned.ensures)))
    ∙ ap plain c.in_ok-unsigned.ensures
    ∙ plainly (goal.at.returns c).After-unsigned
