-- `shares::missing` meets its contract. What is left after some floors is what the others are taken from.
-- Assumes nothing.
use Rattle.series.proofs.Sums.{over-drop, over_none}
use lib.ListN.{length}
use native.Mathlib.Omega.{arith}
use mathlib.Core.Path.{◌≡◌}
use Rattle.shares.proofs.missing.Goals as goal

pub loop-floor-preserved : goal.loop-floor-preserved
loop-floor-preserved c = (omega arith, omega (arith, over-drop (λ v. v) c.args.floors c.loop-floor.floor-index (omega arith), c.saturating_sub-left.ensures))

pub returns : goal.returns
returns c =
    let floors = c.args.floors in
    let sized : length floors ≡ 32 = omega arith in
    let all : c.loop-floor.floor-index ≡ 32 = omega arith in
    omega (arith, rw all at c.loop-floor.invariant.1, rw sized at (over_none (λ v. v) floors))
