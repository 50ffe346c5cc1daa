use Rattle.std.proofs.Common.{◌≤◌}
use Rattle.series.specs.Counts.{high_at}
use Rattle.series.proofs.counting.descended.Given as goal

abbrev pub invariant-loop-below : goal.invariant-loop-below
invariant-loop-below l = l.power.0 ≤ high_at l.limits l.below
