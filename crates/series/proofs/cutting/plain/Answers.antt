-- `series::cutting::plain` meets its contract. The loop stores the sums of the slices so far (Cuts).
-- Assumes nothing.
use Rattle.series.specs.Cuts.{no_sums}
use Rattle.series.proofs.Cuts.{storing-none, storing-more, storing-all, sliced-above}
use Rattle.series.proofs.cutting.plain.Goals as goal

pub loop-k-init : goal.loop-k-init
unfolding no_sums
loop-k-init c = storing-none c.args.limits.now c.args.powers.now

pub loop-k-preserved : goal.loop-k-preserved
loop-k-preserved c =
    let a = c.args in
    let l = c.loop-k in
    storing-more a.limits.now a.powers.now l.sums l.low.0 l.k c.sliced.result c.requires c.loop-k-test.true c.sliced.ensures l.invariant

pub returns : goal.returns
returns c =
    let a = c.args in
    let l = c.loop-k in
    storing-all a.limits.now a.powers.now l.sums l.low.0 l.k c.sliced-rest.result c.loop-k-test.false
    (rw (sliced-above l.low.0 a.powers.now (λ i. (c.type_inv.powers i).fits)) at c.sliced-rest.ensures) l.invariant
