-- `settlement::load::Load::bounds_refusal` meets its contract: each test is that of the definition, in its order.
-- Assumes nothing.
use Rattle.std.proofs.Common.{sym, ◌∙◌}
use Rattle.settlement.specs.Load.{bounds_refusal}
use Rattle.settlement.proofs.load.Load.bounds_refusal.Goals.{then-not-untouched-via-then-not-untouched, then-not-untouched-via-else-not-untouched+then-self}
use Rattle.settlement.proofs.load.Load.bounds_refusal.Goals.{then-not-bound_in_range-via-then-not-bound_in_range, then-not-bound_in_range-via-else-not-bound_in_range+then-not-bound_in_range-2}
use Rattle.settlement.proofs.load.Load.bounds_refusal.Goals as goal

pub returns-then-not-untouched : goal.returns-then-not-untouched
unfolding bounds_refusal
returns-then-not-untouched c =
    elim c.then-not-untouched.branch [
      | then-not-untouched-via-then-not-untouched w ↦ rw w.if-not-untouched.true
      | then-not-untouched-via-else-not-untouched+then-self w ↦ rw (w.if-not-untouched.false, w.if-self.true)
    ]

pub returns-then-not-bound_in_range : goal.returns-then-not-bound_in_range
unfolding bounds_refusal
returns-then-not-bound_in_range c =
    rw (c.if-not-untouched.false, c.if-self.false)
    (elim c.then-not-bound_in_range.branch [
      | then-not-bound_in_range-via-then-not-bound_in_range w ↦ rw (sym c.bound_in_range.ensures ∙ w.if-not-bound_in_range.true)
      | then-not-bound_in_range-via-else-not-bound_in_range+then-not-bound_in_range-2 w ↦
          rw (sym c.bound_in_range.ensures ∙ w.if-not-bound_in_range.false, sym w.bound_in_range-else-not-bound_in_range.ensures ∙ w.if-not-bound_in_range-2.true)
    ])

pub returns : goal.returns
unfolding bounds_refusal
returns c =
    rw (
      c.if-not-untouched.false,
      c.if-self.false,
      sym c.bound_in_range.ensures ∙ c.if-not-bound_in_range.false,
      sym c.bound_in_range-else-not-bound_in_range.ensures ∙ c.if-not-bound_in_range-2.false,
    )
