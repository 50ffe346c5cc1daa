-- `series::counting::counted` meets its contract. The loop stores the sums of the slices so far (Cuts).
-- Assumes nothing.
use Rattle.std.proofs.Common.{◌≡◌, length, refl, arith}
use Rattle.series.specs.Cuts.{no_sums}
use Rattle.series.specs.Counts.{no_places}
use Rattle.series.proofs.Cuts.{Turn, summing-none, summing-turn, summing-all}
use Rattle.series.proofs.counting.counted.Goals.{In-loop-k}
use Rattle.series.proofs.counting.counted.Goals as goal

-- what the turn of a slice asks and gives
turn : (c : In-loop-k) → let t = c.tally in let l = c.loop-k in
    Turn c.args.limits.now c.args.powers.now t.new.counts t.new.parts l.sums l.low l.higher l.k
turn c =
    let t = c.tally in
    let l = c.loop-k in
    summing-turn c.args.limits.now c.args.powers.now t.new.counts t.new.parts
    (record { orderly = c.requires.0; few = c.requires.1; counted = t.ensures }) l.sums l.low l.higher l.k l.invariant c.loop-k-test.true

pub tally-requires : goal.tally-requires
unfolding no_places
tally-requires c = (c.requires.0, (refl, refl))

pub loop-k-init : goal.loop-k-init
unfolding no_sums
loop-k-init c = summing-none c.args.limits.now c.args.powers.now c.tally.new.counts

pub overflow_sub-higher : goal.overflow_sub-higher
overflow_sub-higher c = (turn (goal.at.overflow_sub-higher c).In-loop-k).left

pub overflow_mul-sums : goal.overflow_mul-sums
overflow_mul-sums c = record { fits = (turn (goal.at.overflow_mul-sums c).In-loop-k).fits }

pub loop-k-preserved : goal.loop-k-preserved
loop-k-preserved c = (turn (goal.at.loop-k-preserved c).In-loop-k).again _ refl

pub returns : goal.returns
returns c =
    let a = c.args in
    let l = c.loop-k in
    let t = c.tally in
    let all : l.k ≡ length a.limits.now = omega (arith, l.invariant.storing.scanned.within) in
    rw all at (summing-all a.limits.now a.powers.now t.new.counts t.new.parts (record { orderly = c.requires.0; few = c.requires.1; counted = t.ensures })
    l.sums l.low l.higher l.k l.invariant c.loop-k-test.false)
