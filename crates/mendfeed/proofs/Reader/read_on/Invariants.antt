use Rattle.std.proofs.Common.{◌-◌, ◌≤◌, length}
use Rattle.mendfeed.specs.Steps.{So}
use Rattle.mendfeed.proofs.Reader.read_on.Given as goal

abbrev pub invariant-loop-i : goal.invariant-loop-i
invariant-loop-i l = (l.i ≤ length l.block) × So l.initial.reader l.block 0 l.initial.out 0 l.reader l.i l.next l.out

abbrev pub decreases-loop-i : goal.decreases-loop-i
decreases-loop-i l = length l.block - l.i
