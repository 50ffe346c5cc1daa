use Prim.Native.Nat.{◌+◌, ◌-◌}
use Rattle.series.specs.Places.{Fills}
use Rattle.bounds.specs.Widening.{either_at}
use Rattle.bounds.proofs.widening.widen.Given as goal

abbrev pub invariant-loop-i : goal.invariant-loop-i
invariant-loop-i l = Fills (either_at l.side l.a l.d) (l.w + l.d - 1) l.i l.b
