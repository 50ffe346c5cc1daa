use Prim.Native.Nat.{◌-◌}
use mathlib.Core.Path.{◌≡◌}
use mir.Syntax.{w32}
use mir.Val.{SFits}
use Rattle.bounds.specs.Windows.{over}
use Rattle.bounds.specs.Side.{farther_of}
use Rattle.channel.specs.State.{back_in}
use Rattle.channel.proofs.window.farthest.Given as goal

abbrev pub invariant-loop-k : goal.invariant-loop-k
invariant-loop-k l =
    (l.found ≡ over (farther_of l.side) (back_in l.ring l.newest) l.from (l.k - 1 - l.from)) × SFits w32 l.found
