use Rattle.std.proofs.Common.{take}
use Rattle.claims.specs.Views.{claim_at}
use Rattle.claims.specs.Powers.{next}
use Rattle.claims.specs.Blank.{no_claims}
use Rattle.series.proofs.Scanned.{Scanned}
use Rattle.claims.proofs.claim.joined.Given as goal

abbrev pub invariant-loop-k : goal.invariant-loop-k
invariant-loop-k l = Scanned next (claim_at l.actuals l.acceptances l.floors l.shortfalls) 0 (take l.count l.setpoints) no_claims l.k l.out l.k
