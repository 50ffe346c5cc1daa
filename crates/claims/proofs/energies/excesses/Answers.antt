-- `claims::energies::excesses` meets its contract. The loop stores what the sums so far have above the others.
-- Assumes nothing.
use Rattle.std.proofs.Common.{arith}
use Rattle.series.proofs.Scanned.{scanned-more, scanned-whole}
use Rattle.claims.specs.Powers.{next}
use Rattle.claims.specs.Views.{less_at}
use Rattle.claims.proofs.energies.excesses.Goals as goal

pub loop-k-preserved : goal.loop-k-preserved
unfolding less_at
loop-k-preserved c =
    let l = c.loop-k in
    rw c.saturating_sub.ensures
    (scanned-more next (less_at c.args.others) 0 c.args.sums c.args.sums l.k l.out l.k 0 (omega arith)
    (omega (arith, c.well_formed, c.loop-k-test.true)) l.invariant)

pub returns : goal.returns
returns c =
    let l = c.loop-k in
    scanned-whole next (less_at c.args.others) 0 c.args.sums c.args.sums l.k l.out l.k (omega (arith, c.well_formed, c.loop-k-test.false)) (omega arith) l.invariant
