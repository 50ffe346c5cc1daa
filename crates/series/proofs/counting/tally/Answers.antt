-- `series::counting::tally` meets its contract. The loop keeps what is counted of the powers so far (Cuts).
-- Assumes nothing.
use Rattle.std.proofs.Common.{drop, arith, length-drop}
use Rattle.series.proofs.Lists.{from_place}
use Rattle.series.specs.Counts.{Stepped}
use Rattle.series.proofs.Sums.{sum-at}
use Rattle.series.proofs.Counts.{counted_none, counted-more}
use Rattle.series.proofs.counting.tally.Goals.{After-first_run-step}
use Rattle.series.proofs.counting.tally.Goals as goal

-- the run that was found
stepped : (c : After-first_run-step) → let r = c.first_run-step.result in let at = c.loop-at.at in
    Stepped c.args.limits.now (drop at c.args.powers.now) r.place r.run.count r.run.sum
stepped c = rw (from_place c.args.powers.now c.loop-at.at) at c.first_run-step.ensures

pub loop-at-init : goal.loop-at-init
loop-at-init c = (omega arith, rw (c.requires.1.0, c.requires.1.1) (counted_none c.args.limits.now c.args.powers.now))

pub overflow_add-counts : goal.overflow_add-counts
overflow_add-counts c =
    let l = c.loop-at in
    let powers = c.args.powers.now in
    let found = stepped (goal.at.overflow_add-counts c).After-first_run-step in
    record { fits = omega (arith, sum-at l.counts c.first_run-step.result.place, l.invariant.1.counted, found.ran.within, length-drop l.at powers) }

pub loop-at-preserved : goal.loop-at-preserved
loop-at-preserved c =
    let l = c.loop-at in
    let found = stepped (goal.at.loop-at-preserved c).After-first_run-step in
    (found.within, counted-more c.args.limits.now c.args.powers.now l.counts l.parts l.at _ _ _ c.requires.0 l.invariant.1 found)
