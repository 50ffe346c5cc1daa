use Rattle.std.proofs.Common.{◌-◌, ◌<◌, length}
use Rattle.series.specs.Counts.{Ran}
use Rattle.series.proofs.counting.stretch.Given as goal

abbrev pub invariant-loop-i : goal.invariant-loop-i
invariant-loop-i l = (0 < l.i) × Ran l.low.0 l.fn.high.0 l.powers l.sum l.i

abbrev pub decreases-loop-i : goal.decreases-loop-i
decreases-loop-i l = length l.powers - l.i
