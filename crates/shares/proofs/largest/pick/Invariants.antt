use mathlib.Core.Path.{◌≡◌}
use Prim.Native.Nat.{◌<◌, ◌-◌}
use Rattle.shares.specs.Largest.{pick_of}
use Rattle.shares.proofs.largest.pick.Given as goal

abbrev pub invariant-loop-i : goal.invariant-loop-i
invariant-loop-i l = (l.best ≡ pick_of l.rests (l.i - 1)) × (l.best < l.i)
