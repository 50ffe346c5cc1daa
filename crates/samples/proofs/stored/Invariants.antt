use Rattle.std.proofs.Common.{◌+◌, ◌≤◌, length}
use Rattle.samples.specs.Front.{Kept}
use Rattle.samples.proofs.StretchLaws.{Left}
use Rattle.samples.proofs.stored.Given as goal

abbrev pub invariant-loop-k : goal.invariant-loop-k
invariant-loop-k l =
    (l.at ≤ l.i)
    × (l.i ≤ length l.lines)
    × Kept l.lines (l.i + 2) l.former
    × Left l.lines l.until l.initial.setpoints l.initial.actuals l.filled l.at l.setpoints l.actuals l.k l.i
