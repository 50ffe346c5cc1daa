use Prim.Native.Nat.{◌-◌, ◌≤◌, ◌<◌}
use Rattle.bounds.proofs.widening.odd_passes.Given as goal

abbrev pub invariant-loop-m : goal.invariant-loop-m
invariant-loop-m l = (0 < l.m) × (l.m ≤ l.to)

abbrev pub decreases-loop-m : goal.decreases-loop-m
decreases-loop-m l = l.to - l.m
