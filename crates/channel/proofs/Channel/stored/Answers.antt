-- `channel::Channel::stored` meets its contract.
-- Assumes nothing.
use mir.Syntax.{w32}
use mir.ValLaws.{to_z-of_z}
use Rattle.channel.specs.State.{stored_of, after}
use Rattle.channel.proofs.Channel.stored.Goals as goal

pub returns : goal.returns
unfolding stored_of after
returns c = rw (to_z-of_z w32 c.args.setpoint c.ranges.setpoint)
