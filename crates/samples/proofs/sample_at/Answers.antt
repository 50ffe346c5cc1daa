-- `samples::sample_at` meets its contract: a front and a row, or no sample in range. Assumes nothing.
use Rattle.std.proofs.Common.{refl, arith}
use Rattle.samples.proofs.FieldScan.{after-tab}
use Rattle.samples.proofs.LineScan.{no_front_lem, by_front, no-sample, a-sample, few-left}
use Rattle.samples.proofs.PowerForm.{range_back}
use Rattle.samples.proofs.sample_at.Goals as goal

pub returns-then-lines-at-lt2 : goal.returns-then-lines-at-lt2
returns-then-lines-at-lt2 c = few-left c.requires.within c.requires.ended c.if-lines-at-lt2.true

pub returns-in_err-front : goal.returns-in_err-front
returns-in_err-front c = rw c.from_residual.ensures (no-sample (no_front_lem c.in_err-front.ensures))

pub row_at-requires : goal.row_at-requires
row_at-requires c = after-tab (c.requires.ended (omega (arith, c.if-lines-at-lt2.false))) (c.in_ok-front.ensures.sound _ refl).field

pub returns-in_err-row : goal.returns-in_err-row
returns-in_err-row c =
    let f = c.in_ok-front.ensures.sound _ refl in
    let ended = c.requires.ended (omega (arith, c.if-lines-at-lt2.false)) in
    rw c.from_residual-in_err-row.ensures (no-sample (by_front ended f (rw (range_back _ f.field.ranged) at c.in_err-row.ensures)))

pub returns : goal.returns
returns c =
    let f = c.in_ok-front.ensures.sound _ refl in
    let ended = c.requires.ended (omega (arith, c.if-lines-at-lt2.false)) in
    a-sample f (by_front ended f (rw (range_back _ f.field.ranged) at c.in_ok-row.ensures))
