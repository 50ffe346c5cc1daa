-- `arithmetic::whole::positive_part` meets its contract.
-- Assumes nothing.
use mathlib.Core.Path.{◌∙◌}
use mir.Syntax.{w64}
use mir.ValLaws.{to_z-of_z}
use Rattle.arithmetic.proofs.Signed.{back}
use Rattle.arithmetic.proofs.Parts.{abs-above}
use Rattle.arithmetic.proofs.whole.positive_part.Goals as goal

pub returns : goal.returns
returns c = c.unsigned_abs.ensures.value ∙ rw (back c.max.type_inv, c.max.ensures.value, to_z-of_z w64 c.args.x c.ranges.x) (abs-above c.args.x)
