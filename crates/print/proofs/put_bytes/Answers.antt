-- `print::put_bytes` meets its contract. The loop's invariant: the bytes passed are written.
-- Assumes nothing.
use Prim.Native.Nat.{ℕ}
use lib.Seq.{take-suc}
use native.Mathlib.Numerals.{add-one}
use Rattle.print.proofs.Writing.{join}
use Rattle.print.proofs.put_bytes.Goals as goal

pub loop-byte-preserved : goal.loop-byte-preserved
loop-byte-preserved c =
    rw (add-one, take-suc {A = ℕ} _ _ 0 c.loop-byte-test.true) (join c.loop-byte.invariant c.put-next.ensures)
