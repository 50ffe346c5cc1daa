use Rattle.series.proofs.Cuts.{Summing}
use Rattle.series.proofs.counting.counted.Given as goal

abbrev pub invariant-loop-k : goal.invariant-loop-k
invariant-loop-k l = Summing l.limits l.powers l.counts l.sums l.low l.higher l.k
