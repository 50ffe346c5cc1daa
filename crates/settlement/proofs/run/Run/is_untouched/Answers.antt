-- `settlement::run::Run::is_untouched` meets its contract.
-- Assumes nothing.
use Rattle.std.proofs.Common.{sym, ◌∙◌}
use Rattle.settlement.specs.Run.{untouched}
use Rattle.settlement.proofs.run.Run.is_untouched.Goals.{then-before_samples, else-before_samples}
use Rattle.settlement.proofs.run.Run.is_untouched.Goals as goal

pub returns-then-count-eq0 : goal.returns-then-count-eq0
unfolding untouched
returns-then-count-eq0 c =
    let negative = rw c.book-then-count-eq0.ensures at c.count-then-count-eq0.ensures in
    elim c.if-before_samples.branch [
      | then-before_samples w ↦
          let positive = rw w.book.ensures at w.count.ensures in
          rw (sym c.before_samples.ensures ∙ w.if-before_samples.true, ← positive, sym w.value-is ∙ c.if-count-eq0.true, negative)
      | else-before_samples w ↦ cc w.if-before_samples.false
    ]

pub returns-else-count-eq0 : goal.returns-else-count-eq0
unfolding untouched
returns-else-count-eq0 c =
    elim c.if-before_samples.branch [
      | then-before_samples w ↦
          let positive = rw w.book.ensures at w.count.ensures in
          rw (c.if-count-eq0.false, sym c.before_samples.ensures ∙ w.if-before_samples.true, ← positive, sym w.value-is ∙ c.if-count-eq0.false)
      | else-before_samples w ↦ rw (c.if-count-eq0.false, sym c.before_samples.ensures ∙ w.if-before_samples.false)
    ]
