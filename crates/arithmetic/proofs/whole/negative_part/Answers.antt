-- `arithmetic::whole::negative_part` meets its contract.
-- Assumes nothing.
use mathlib.Core.Path.{◌∙◌}
use mir.Syntax.{w64}
use mir.ValLaws.{to_z-of_z}
use Rattle.arithmetic.proofs.Signed.{back}
use Rattle.arithmetic.proofs.Parts.{abs-below}
use Rattle.arithmetic.proofs.whole.negative_part.Goals as goal

pub returns : goal.returns
returns c = c.unsigned_abs.ensures.value ∙ rw (back c.min.type_inv, c.min.ensures.value, to_z-of_z w64 c.args.x c.ranges.x) (abs-below c.args.x)
