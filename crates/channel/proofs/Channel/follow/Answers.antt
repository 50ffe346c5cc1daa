-- `channel::Channel::follow` meets its contract.
-- Assumes nothing.
use mathlib.Core.Path.{◌≡◌}
use mir.Syntax.{w32}
use mir.ValLaws.{to_z-of_z}
use Rattle.channel.specs.State.{followed}
use Rattle.channel.proofs.Ring.{follows}
use Rattle.channel.proofs.Channel.follow.Goals.{After-advanced}
use Rattle.channel.proofs.Channel.follow.Goals as goal

stepped : (c : After-advanced) → c.advanced.result ≡ followed c.args.self c.args.setpoint
unfolding followed
stepped c = rw (c.advanced.ensures, c.stored.ensures, c.primed.ensures, to_z-of_z w32 c.args.setpoint c.ranges.setpoint)

pub returns : goal.returns
returns c =
    let e = stepped (goal.at.returns c).After-advanced in record {
      step = e;
      series = λ i lot start h r. rw e (follows c.args.self c.args.setpoint start h r);
    }
