use Rattle.bounds.specs.Line.{Flat}
use Rattle.bounds.proofs.line.is_flat.Given as goal

abbrev pub invariant-loop-k : goal.invariant-loop-k
invariant-loop-k l = Flat l.line l.k
