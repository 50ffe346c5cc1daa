-- `channel::Channel::back` meets its contract.
-- Assumes nothing.
use Prim.Native.Nat.{◌+◌, ◌-◌, ◌%◌}
use mathlib.Core.Path.{◌≡◌, ◌∙◌}
use lib.IntN.{pos}
use lib.ListN.{get_or}
use mir.Syntax.{w32}
use mir.Val.{SFits}
use mir.ValLaws.{to_z-of_z}
use Rattle.std.proofs.Common.{rules, arith}
use Rattle.arithmetic.specs.Whole.{least_of}
use Rattle.channel.specs.State.{back_in, past_of}
use Rattle.channel.proofs.Channel.back.Goals as goal

pub returns : goal.returns
unfolding past_of back_in least_of
returns c =
    let far : c.min-far.result ≡ least_of c.args.k 301 = omega (arith, c.min-far.ensures) in
    let fits : SFits w32 (get_or c.args.self.ring ((c.args.self.newest % 302 + 302 - c.min-far.result) % 302) (pos 0)) = search rules in
    to_z-of_z w32 _ fits ∙ rw far
