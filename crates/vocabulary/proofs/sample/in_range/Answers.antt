-- `vocabulary::sample::in_range` meets its contract.
-- Assumes nothing.
use mathlib.Core.Path.{◌∙◌}
use mir.Syntax.{w32}
use mir.ValLaws.{to_z-of_z}
use Rattle.vocabulary.specs.Sample.{power_in_range}
use Rattle.vocabulary.proofs.sample.in_range.Goals as goal

pub returns : goal.returns
unfolding power_in_range
returns c = c.within.ensures ∙ rw (to_z-of_z w32 c.args.power c.ranges.power)
