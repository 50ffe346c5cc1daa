-- `series::cutting::sliced` meets its contract. The loop adds modulo 2 ^ 64 what is left of the series.
-- Assumes nothing.
use Rattle.series.proofs.Sums.{adding-more, adding-all, over-drop, over_none}
use Rattle.series.specs.Slices.{slice_of, sliced_of}
use Rattle.std.proofs.Common.{length, get_or, drop, arith}
use Rattle.series.proofs.cutting.sliced.Goals as goal

pub loop-power-preserved : goal.loop-power-preserved
loop-power-preserved c =
    let a = c.args in
    let l = c.loop-power in
    let f = slice_of a.low.0 a.high.0 in
    adding-more (length a.powers.now) (λ k. sliced_of a.low.0 a.high.0 (drop k a.powers.now)) l.sum l.power-index (f (get_or a.powers.now l.power-index 0)) _
    (omega arith) (over-drop f a.powers.now l.power-index (omega arith)) (rw (← c.slice-sum.ensures)) l.invariant

pub returns : goal.returns
returns c =
    let a = c.args in
    let l = c.loop-power in
    adding-all (length a.powers.now) (λ k. sliced_of a.low.0 a.high.0 (drop k a.powers.now)) l.sum l.power-index
    (omega arith) (over_none (slice_of a.low.0 a.high.0) a.powers.now) l.invariant
