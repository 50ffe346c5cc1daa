-- `channel::Channel::primed` meets its contract.
-- Assumes nothing.
use mathlib.Core.Path.{◌∙◌}
use mir.Syntax.{w32}
use mir.ValLaws.{to_z-of_z}
use Rattle.channel.specs.State.{primed_of}
use Rattle.channel.proofs.Channel.primed.Goals as goal

pub returns-then-self : goal.returns-then-self
unfolding primed_of
returns-then-self c = rw c.if-self.true

pub returns-else-self : goal.returns-else-self
unfolding primed_of
returns-else-self c = c.filled.ensures ∙ rw (to_z-of_z w32 c.args.setpoint c.ranges.setpoint, c.if-self.false)
