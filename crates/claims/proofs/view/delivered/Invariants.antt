use Rattle.series.proofs.Scanned.{Mapped}
use Rattle.claims.specs.Views.{delivered_of}
use Rattle.claims.proofs.view.delivered.Given as goal

abbrev pub invariant-loop-i : goal.invariant-loop-i
invariant-loop-i l = Mapped (delivered_of l.direction) l.actuals l.initial.out l.out l.i
