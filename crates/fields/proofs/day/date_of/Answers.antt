-- `fields::day::date_of` meets its contract: four digits fit the year, two the month and the day. Assumes nothing.
use Rattle.std.proofs.Common.{refl, sym, ◌∙◌, arith}
use Rattle.fields.proofs.DayLaws.{not-ten, not-fifth, not-eighth, by_parts}
use Rattle.fields.proofs.DigitLaws.{part-below}
use Rattle.fields.proofs.day.date_of.Goals.{then-field-ne10-via-then-field-ne10, then-field-ne10-via-else-field-ne10+then-field-ne45, then-field-ne10-via-else-field-ne10+else-field-ne45+then-field-ne45-2}
use Rattle.fields.proofs.day.date_of.Goals as goal

pub returns-then-field-ne10 : goal.returns-then-field-ne10
returns-then-field-ne10 c =
    elim c.then-field-ne10.branch [
      | then-field-ne10-via-then-field-ne10 w ↦ not-ten _ w.if-field-ne10.true
      | then-field-ne10-via-else-field-ne10+then-field-ne45 w ↦ not-fifth _ w.if-field-ne10.false w.if-field-ne45.true
      | then-field-ne10-via-else-field-ne10+else-field-ne45+then-field-ne45-2 w ↦ not-eighth _ w.if-field-ne10.false w.if-field-ne45.false w.if-field-ne45-2.true
    ]

pub returns-in_err-year : goal.returns-in_err-year
returns-in_err-year c =
    c.from_residual.ensures
    ∙ by_parts _ c.if-field-ne10.false c.if-field-ne45.false c.if-field-ne45-2.false (sym c.in_err-year.ensures) refl refl

pub returns-in_err-month : goal.returns-in_err-month
returns-in_err-month c =
    c.from_residual-in_err-month.ensures
    ∙ by_parts _ c.if-field-ne10.false c.if-field-ne45.false c.if-field-ne45-2.false (sym c.in_ok-year.ensures) (sym c.in_err-month.ensures) refl

pub returns-in_err-day : goal.returns-in_err-day
returns-in_err-day c =
    c.from_residual-in_err-day.ensures
    ∙ by_parts _ c.if-field-ne10.false c.if-field-ne45.false c.if-field-ne45-2.false (sym c.in_ok-year.ensures) (sym c.in_ok-month.ensures) (sym c.in_err-day.ensures)

pub overflow_cast-result : goal.overflow_cast-result
overflow_cast-result c = omega (arith, part-below 4 _ _ (sym c.in_ok-year.ensures))

pub overflow_cast-result-2 : goal.overflow_cast-result-2
overflow_cast-result-2 c = omega (arith, part-below 2 _ _ (sym c.in_ok-month.ensures))

pub overflow_cast-result-3 : goal.overflow_cast-result-3
overflow_cast-result-3 c = omega (arith, part-below 2 _ _ (sym c.in_ok-day.ensures))

pub returns : goal.returns
returns c =
    by_parts _ c.if-field-ne10.false c.if-field-ne45.false c.if-field-ne45-2.false (sym c.in_ok-year.ensures) (sym c.in_ok-month.ensures) (sym c.in_ok-day.ensures)
