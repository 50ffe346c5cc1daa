-- `channel::Channel::bounded` meets its contract.
-- Assumes nothing.
use mathlib.Core.Path.{refl}
use Rattle.channel.specs.State.{bounded_of}
use Rattle.channel.proofs.Loaded.{bounds_given}
use Rattle.channel.proofs.Channel.bounded.Goals as goal

pub returns : goal.returns
unfolding bounded_of
returns c = record {
  step = refl;
  series = λ i lot b r. bounds_given c.args.self c.args.oga.0 c.args.uga.0 b r;
}
