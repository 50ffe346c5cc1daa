use Rattle.std.proofs.Common.{◌+◌, ◌-◌, ◌≤◌, length}
use Rattle.calls.proofs.play.Given as goal

abbrev pub invariant-loop-from : goal.invariant-loop-from
invariant-loop-from g l = l.from ≤ length l.script + 1

abbrev pub decreases-loop-from : goal.decreases-loop-from
decreases-loop-from g l = length l.script + 1 - l.from
