use Rattle.std.proofs.Common.{◌-◌, ◌≤◌, length}
use Rattle.series.specs.Counts.{Counted}
use Rattle.series.proofs.counting.tally.Given as goal

abbrev pub invariant-loop-at : goal.invariant-loop-at
invariant-loop-at l = (l.place ≤ length l.limits) × Counted l.limits l.powers l.counts l.parts l.at

abbrev pub decreases-loop-at : goal.decreases-loop-at
decreases-loop-at l = length l.powers - l.at
