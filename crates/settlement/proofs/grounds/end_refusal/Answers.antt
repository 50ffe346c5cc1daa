-- `settlement::grounds::end_refusal` meets its contract.
-- Assumes nothing.
use borrow.Author.Tests.{eq-eqb, ne_eqb, lt-ltb, le-ltb}
use Rattle.settlement.specs.Calls.{end_refusal}
use Rattle.settlement.proofs.grounds.end_refusal.Goals.{then-quarters-eq0-via-then-quarters-eq0, then-quarters-eq0-via-else-quarters-eq0+then-missing}
use Rattle.settlement.proofs.grounds.end_refusal.Goals as goal

pub returns-then-quarters-eq0 : goal.returns-then-quarters-eq0
unfolding end_refusal
returns-then-quarters-eq0 c =
    elim c.then-quarters-eq0.branch [
      | then-quarters-eq0-via-then-quarters-eq0 w ↦ rw (eq-eqb _ _ w.if-quarters-eq0.true)
      | then-quarters-eq0-via-else-quarters-eq0+then-missing w ↦ rw (ne_eqb _ _ w.if-quarters-eq0.false, lt-ltb _ _ w.if-missing.true)
    ]

pub returns : goal.returns
unfolding end_refusal
returns c = rw (ne_eqb _ _ c.if-quarters-eq0.false, le-ltb _ _ c.if-missing.false)
