-- `fields::number::number_of` meets its contract: nine digits fit an i32. Assumes nothing.
use Rattle.std.proofs.Common.{sym, ◌∙◌, to_z-of_z, arith}
use mir.Val.{SFits}
use mir.Syntax.{w32, w64}
use Rattle.fields.specs.Numbers.{number_of}
use Rattle.fields.proofs.SignLaws.{long-below}
use Rattle.fields.proofs.number.number_of.Goals as goal

pub returns-in_err-long_number_of : goal.returns-in_err-long_number_of
unfolding number_of
returns-in_err-long_number_of c = c.from_residual.ensures ∙ c.in_err-long_number_of.ensures

pub overflow_cast-result : goal.overflow_cast-result
overflow_cast-result c =
    let b = long-below 9 _ _ (sym c.in_ok-long_number_of.ensures) in
    let f : SFits w64 c.in_ok-long_number_of.field-0 = record { sfits = omega arith } in
    rw (to_z-of_z f) (record { sfits = omega arith })

pub returns : goal.returns
unfolding number_of
returns c =
    let b = long-below 9 _ _ (sym c.in_ok-long_number_of.ensures) in
    let f : SFits w64 c.in_ok-long_number_of.field-0 = record { sfits = omega arith } in
    let g : SFits w32 c.in_ok-long_number_of.field-0 = record { sfits = omega arith } in
    rw (to_z-of_z f, to_z-of_z g) c.in_ok-long_number_of.ensures
