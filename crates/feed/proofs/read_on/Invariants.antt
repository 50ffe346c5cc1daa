use Prim.Native.Nat.{◌-◌, ◌≤◌}
use lib.ListN.{length}
use Rattle.sheets.specs.Buffer.{buffer_length}
use Rattle.feed.specs.Steps.{reader_with, desk_with}
use Rattle.feed.proofs.ReaderLaws.{Come}
use Rattle.feed.proofs.read_on.Given as goal

abbrev pub invariant-loop-setpoints : goal.invariant-loop-setpoints
invariant-loop-setpoints l =
    (buffer_length ≤ length l.initial.out)
    × Come (reader_with l.initial.gatherer (desk_with l.initial.step.desk l.initial.setpoints l.initial.actuals)) l.block l.initial.out (reader_with l.gatherer (desk_with l.step.desk l.setpoints l.actuals)) l.i l.step.printed l.out

abbrev pub decreases-loop-setpoints : goal.decreases-loop-setpoints
decreases-loop-setpoints l = length l.block - l.i
