-- `judging::wanted::is_quarter` meets its contract. Assumes nothing.
use Rattle.judging.proofs.WantedLaws.{quarter-told}
use mir.Syntax.{w32}
use mir.ValLaws.{to_z-of_z}
use Rattle.std.proofs.Common.{◌∙◌}
use Rattle.judging.proofs.wanted.is_quarter.Goals as goal

pub returns : goal.returns
returns c = c.eq.ensures ∙ quarter-told _ c.args.quarter c.args.said c.try_from.result c.ranges.said (rw (to_z-of_z w32 c.args.said c.ranges.said) at c.try_from.ensures)
