use Rattle.series.proofs.Cuts.{Storing}
use Rattle.series.proofs.cutting.plain.Given as goal

abbrev pub invariant-loop-k : goal.invariant-loop-k
invariant-loop-k l = Storing l.limits l.powers l.sums l.low.0 l.k
