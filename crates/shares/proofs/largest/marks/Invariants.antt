use mathlib.Core.Path.{◌≡◌}
use Prim.Native.Nat.{◌≤◌, ◌-◌}
use Rattle.shares.specs.Largest.{marked}
use Rattle.shares.proofs.largest.marks.Given as goal

abbrev pub invariant-loop : goal.invariant-loop
invariant-loop l = (l.counter ≤ l.missing) × (marked (l.missing - l.counter) l.left l.out ≡ marked l.missing l.initial.left l.initial.out)
