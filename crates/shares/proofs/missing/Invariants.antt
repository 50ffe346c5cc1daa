use Rattle.series.specs.Sums.{sum_of}
use lib.ListN.{drop}
use mathlib.Core.Path.{◌≡◌}
use Prim.Native.Nat.{◌-◌, ◌≤◌}
use Rattle.shares.proofs.missing.Given as goal

abbrev pub invariant-loop-floor : goal.invariant-loop-floor
invariant-loop-floor l = (l.floor-index ≤ 32) × (l.left - sum_of (drop l.floor-index l.floor-items) ≡ l.handed - sum_of l.floor-items)
