use Rattle.claims.specs.Views.{energy_held}
use Rattle.series.proofs.Scanned.{Mapped}
use Rattle.claims.proofs.energies.energies.Given as goal

abbrev pub invariant-loop-k : goal.invariant-loop-k
invariant-loop-k l = Mapped (energy_held l.seconds) l.sums l.initial.out l.out l.k
