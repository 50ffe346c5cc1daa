-- `channel::Channel::filled` meets its contract.
-- Assumes nothing.
use mir.Syntax.{w32}
use mir.ValLaws.{to_z-of_z}
use Rattle.channel.specs.State.{filled_of}
use Rattle.channel.proofs.Channel.filled.Goals as goal

pub returns : goal.returns
unfolding filled_of
returns c = let e = to_z-of_z w32 c.args.setpoint c.ranges.setpoint in rw (e, c.in_units-held.ensures, e)
