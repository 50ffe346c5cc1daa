use Prim.Native.Nat.{◌-◌, ◌≤◌, ◌<◌}
use mathlib.Core.Path.{◌≡◌}
use mathlib.Core.List.{List}
use lib.IntN.{ℤ}
use lib.ListN.{length}
use Rattle.bounds.specs.Widening.{Reaching}
use Rattle.bounds.proofs.widening.grow.Given as goal

abbrev pub invariant-loop-m : goal.invariant-loop-m
invariant-loop-m l =
    (((0 < l.m) × (l.m ≤ l.to)) × ((length l.x ≡ length l.initial.x) × (length l.y ≡ length l.initial.y)))
    × ((line : List ℤ) → Reaching l.side line l.from l.len l.initial.x → Reaching l.side line l.m l.len l.x)

abbrev pub decreases-loop-m : goal.decreases-loop-m
decreases-loop-m l = l.to - l.m
