use Prim.Native.Nat.{◌*◌, ◌^◌, ◌≤◌}
use Rattle.series.specs.Cuts.{no_sums}
use Rattle.contracts.specs.Terms.{upper_of}
use Rattle.series.proofs.Scanned.{Scanned}
use Rattle.contracts.proofs.terms.limits.Given as goal

abbrev pub invariant-loop-k : goal.invariant-loop-k
invariant-loop-k l = (Scanned upper_of upper_of 0 l.terms no_sums l.high l.out l.k) × (l.high ≤ l.k * 2 ^ 45)
