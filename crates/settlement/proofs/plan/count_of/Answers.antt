-- `settlement::plan::count_of` meets its contract.
-- Assumes nothing.
use Rattle.std.proofs.Common.{arith, ap, ◌∙◌}
use mir.Syntax.{w32}
use mir.ValLaws.{to_z-of_z}
use Rattle.arithmetic.specs.Whole.{up, least_of}
use Rattle.settlement.proofs.plan.count_of.Goals as goal

pub returns : goal.returns
unfolding least_of
returns c =
    let told = c.above_zero.ensures ∙ ap up (to_z-of_z w32 c.args.n c.ranges.n) in
    omega (arith, told, c.min.ensures)
