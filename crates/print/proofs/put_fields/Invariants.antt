use Rattle.print.proofs.FieldLaws.{Numbered}
use Rattle.print.proofs.put_fields.Given as goal

abbrev pub invariant-loop-number : goal.invariant-loop-number
invariant-loop-number l = Numbered l.numbers l.initial.buf l.at l.number-index l.next l.buf
