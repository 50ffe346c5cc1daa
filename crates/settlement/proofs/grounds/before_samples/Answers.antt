-- `settlement::grounds::before_samples` meets its contract.
-- Assumes nothing.
use Rattle.std.proofs.Common.{inl, inr}
use borrow.Author.Tests.{eq-eqb, ne_eqb}
use Rattle.settlement.specs.Calls.{unbegun}
use Rattle.settlement.proofs.grounds.before_samples.Goals.{then-filled-eq0, else-filled-eq0}
use Rattle.settlement.proofs.grounds.before_samples.Goals as goal

pub returns-then-untaken : goal.returns-then-untaken
unfolding unbegun
returns-then-untaken c = rw (eq-eqb _ _ c.if-untaken.true.0, eq-eqb _ _ c.if-untaken.true.1)

pub returns-else-untaken : goal.returns-else-untaken
unfolding unbegun
returns-else-untaken c =
    elim c.if-untaken.either [
      | inl p ↦ elim c.if-filled-eq0.branch [
        | then-filled-eq0 w ↦ let taken = ne_eqb _ _ p.1 in rw (eq-eqb _ _ p.0, taken) (cc taken)
        | else-filled-eq0 w ↦ absurd (w.if-filled-eq0.false p.0)
      ]
      | inr n ↦ elim c.if-filled-eq0.branch [
        | then-filled-eq0 w ↦ absurd (n w.if-filled-eq0.true)
        | else-filled-eq0 w ↦ let filled = ne_eqb _ _ n in rw filled (cc filled)
      ]
    ]
