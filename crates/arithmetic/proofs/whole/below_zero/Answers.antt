-- `arithmetic::whole::below_zero` meets its contract.
-- Assumes nothing.
use native.Mathlib.Omega.{arith}
use mir.Syntax.{w32}
use mir.ValLaws.{to_z-of_z}
use Rattle.arithmetic.proofs.Signed.{fits-down, back}
use Rattle.arithmetic.proofs.whole.below_zero.Goals as goal

pub overflow_cast-result : goal.overflow_cast-result
overflow_cast-result c =
    let z = c.args.x in
    record { fits = rw (c.negative_part.ensures, back c.from.type_inv, c.from.ensures, to_z-of_z w32 z c.ranges.x) (omega (arith, fits-down w32 z c.ranges.x)) }
