-- `claims::energies::energies` meets its contract. The loop stores the energy of each sum.
-- Assumes nothing.
use Rattle.std.proofs.Common.{arith}
use Rattle.claims.specs.Views.{energy_held}
use Rattle.arithmetic.specs.Energy.{kwh}
use lib.ListN.{replicate}
use Rattle.series.proofs.Scanned.{mapped-more, mapped-whole}
use Rattle.claims.proofs.energies.energies.Goals as goal

pub loop-k-preserved : goal.loop-k-preserved
loop-k-preserved c =
    let l = c.loop-k in
    rw c.energy_held.ensures
    (mapped-more (energy_held c.args.seconds) c.args.sums (replicate 32 (kwh 0)) l.out l.k 0 (omega (arith, c.well_formed))
    (omega (arith, c.well_formed, c.loop-k-test.true)) l.invariant)

pub returns : goal.returns
returns c =
    let l = c.loop-k in
    mapped-whole (energy_held c.args.seconds) c.args.sums (replicate 32 (kwh 0)) l.out l.k (omega (arith, c.well_formed, c.loop-k-test.false))
    (omega (arith, c.well_formed)) l.invariant
