-- `channel::Channel::new` meets its contract.
-- Assumes nothing.
use mathlib.Core.Path.{refl}
use Rattle.channel.specs.State.{new_of}
use Rattle.channel.proofs.Ring.{new-stands}
use Rattle.channel.proofs.Channel.new.Goals as goal

pub returns : goal.returns
unfolding new_of
returns c = record {
  step = refl;
  series = new-stands c.args.interval c.args.lot;
}
