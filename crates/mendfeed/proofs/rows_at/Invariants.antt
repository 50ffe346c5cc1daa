use Rattle.std.proofs.Common.{◌-◌}
use Rattle.mendfeed.specs.Steps.{Runs}
use Rattle.mendfeed.proofs.rows_at.Given as goal

abbrev pub invariant-loop-so : goal.invariant-loop-so
invariant-loop-so l = Runs l.count l.block l.initial.so l.initial.out l.so l.out

abbrev pub decreases-loop-so : goal.decreases-loop-so
decreases-loop-so l = l.end - l.so.to
