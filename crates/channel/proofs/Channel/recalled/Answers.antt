-- `channel::Channel::recalled` meets its contract.
-- Assumes nothing.
use mathlib.Core.Path.{◌≡◌}
use mir.Syntax.{w32}
use mir.ValLaws.{to_z-of_z}
use Rattle.channel.specs.State.{recalled_of}
use Rattle.channel.proofs.Loaded.{recalls}
use Rattle.channel.proofs.Channel.recalled.Goals.{After-stored}
use Rattle.channel.proofs.Channel.recalled.Goals as goal

stepped : (c : After-stored) → c.stored.result ≡ recalled_of c.args.self c.args.setpoint
unfolding recalled_of
stepped c = rw (c.stored.ensures, c.primed-ready.ensures, to_z-of_z w32 c.args.setpoint c.ranges.setpoint)

pub returns : goal.returns
returns c =
    let e = stepped (goal.at.returns c).After-stored in record {
      step = e;
      series = λ i lot start r. rw e (recalls c.args.self c.args.setpoint start r);
    }
