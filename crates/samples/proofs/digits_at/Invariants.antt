use Rattle.samples.proofs.DigitScan.{Midway}
use Rattle.samples.proofs.digits_at.Given as goal

abbrev pub invariant-loop-k : goal.invariant-loop-k
invariant-loop-k l = Midway l.bytes l.from l.value l.k
