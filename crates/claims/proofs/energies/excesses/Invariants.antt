use Rattle.series.proofs.Scanned.{Scanned}
use Rattle.claims.specs.Powers.{next}
use Rattle.claims.specs.Views.{less_at}
use Rattle.claims.proofs.energies.excesses.Given as goal

abbrev pub invariant-loop-k : goal.invariant-loop-k
invariant-loop-k l = Scanned next (less_at l.others) 0 l.sums l.sums l.k l.out l.k
