-- `settlement::run::run_of` meets its contract.
-- Assumes nothing.
use Rattle.std.proofs.Common.{rules, ◌≡◌}
use Rattle.std.proofs.Common.{w32, to_z, of_z}
use Rattle.arithmetic.proofs.Signed.{back32}
use Rattle.settlement.specs.Run.{run_of}
use Rattle.settlement.proofs.run.run_of.Goals as goal

pub returns : goal.returns
unfolding run_of
returns c =
    let seconds : to_z w32 (of_z w32 c.args.header.interval) ≡ c.args.header.interval = search rules in
    let kw = back32 {z = c.lot_meant.result} c.lot_meant.type_inv in
    rw (c.fresh.ensures, c.plan_of.ensures, c.above_zero-lot.ensures, kw, c.lot_meant.ensures, c.interval_of-interval.ensures, c.above_zero.ensures, seconds)
