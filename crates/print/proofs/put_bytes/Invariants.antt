use lib.ListN.{take}
use Rattle.print.specs.Print.{Wrote}
use Rattle.print.proofs.put_bytes.Given as goal

abbrev pub invariant-loop-byte : goal.invariant-loop-byte
invariant-loop-byte l = Wrote l.initial.buf l.at (take l.byte-index l.bytes) l.next l.buf
