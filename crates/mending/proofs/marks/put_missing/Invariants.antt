use Rattle.mending.proofs.MissingLaws.{PutUpTo}
use Rattle.mending.proofs.marks.put_missing.Given as goal

abbrev pub invariant-loop-place : goal.invariant-loop-place
invariant-loop-place l = PutUpTo l.grid l.sample l.from l.until l.initial.buf l.at l.place l.next l.buf
