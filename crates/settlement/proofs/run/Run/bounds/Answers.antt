-- `settlement::run::Run::bounds` meets its contract.
-- Assumes nothing.
use Rattle.vocabulary.proofs.RefusalLaws.{accepted-ok}
use Rattle.settlement.specs.Run.{bounds_ground, with_bounds, with_bounds_of}
use Rattle.settlement.proofs.run.Run.bounds.Goals as goal

pub returns-then-is_ok : goal.returns-then-is_ok
unfolding bounds_ground with_bounds with_bounds_of
returns-then-is_ok c =
    let e = rw c.is_untouched.ensures at c.bounds_refusal-refusal.ensures in
    rw (← e, accepted-ok c.bounds_refusal-refusal.result, ← c.is_ok.ensures.value, c.if-is_ok.true, c.begun_with-self.ensures, c.interval.ensures)

pub returns-else-is_ok : goal.returns-else-is_ok
unfolding bounds_ground with_bounds_of
returns-else-is_ok c =
    let e = rw c.is_untouched.ensures at c.bounds_refusal-refusal.ensures in
    rw (← e, accepted-ok c.bounds_refusal-refusal.result, ← c.is_ok.ensures.value, c.if-is_ok.false)
