use Rattle.arithmetic.specs.Energy.{kwh}
use Rattle.shares.proofs.Parting.{following, plus_at}
use Rattle.series.proofs.Scanned.{Scanned}
use Rattle.shares.proofs.topped_up.Given as goal

abbrev pub invariant-loop-k : goal.invariant-loop-k
invariant-loop-k l = Scanned following (λ j v. kwh (plus_at l.extras j v)) 0 l.floors l.initial.out l.k l.out l.k
