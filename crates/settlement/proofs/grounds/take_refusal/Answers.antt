-- `settlement::grounds::take_refusal` meets its contract.
-- Assumes nothing.
use Rattle.std.proofs.Common.{arith}
use borrow.Author.Tests.{lt-ltb, le-ltb, le-leb, lt-leb}
use Rattle.settlement.specs.Calls.{take_refusal}
use Rattle.settlement.proofs.grounds.take_refusal.Goals.{then-filled-samples-via-then-filled-samples, then-filled-samples-via-else-filled-samples+then-quarters-taken}
use Rattle.settlement.proofs.grounds.take_refusal.Goals as goal

pub returns-then-filled-samples : goal.returns-then-filled-samples
unfolding take_refusal
returns-then-filled-samples c = (
  elim c.then-filled-samples.branch [
    | then-filled-samples-via-then-filled-samples w ↦ rw (lt-ltb _ _ w.if-filled-samples.true)
    | then-filled-samples-via-else-filled-samples+then-quarters-taken w ↦ rw (le-ltb _ _ w.if-filled-samples.false, le-leb _ _ w.if-quarters-taken.true)
  ],
  λ h. absurd (omega arith),
)

pub returns : goal.returns
unfolding take_refusal
returns c = (rw (le-ltb _ _ c.if-filled-samples.false, lt-leb _ _ c.if-quarters-taken.false), λ h. omega arith)
