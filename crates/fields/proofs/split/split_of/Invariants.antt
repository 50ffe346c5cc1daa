use Rattle.fields.proofs.SplitLaws.{Splitting}
use lib.ListN.{length}
use Prim.Native.Nat.{suc, ◌-◌}
use Rattle.fields.proofs.split.split_of.Given as goal

abbrev pub invariant-loop-from : goal.invariant-loop-from
invariant-loop-from l = Splitting l.line l.from l.count l.places

abbrev pub decreases-loop-from : goal.decreases-loop-from
decreases-loop-from l = suc (length l.line) - l.from
