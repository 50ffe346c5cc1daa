-- `samples::recorded::entered_at` meets its contract: each test that fails rules out a recorded sample in range, and all together make one.
-- Assumes nothing.
use Rattle.std.proofs.Common.{refl, ◌∙◌, arith}
use Rattle.samples.proofs.PowerForm.{range_back}
use Rattle.samples.proofs.RecordedScan.{no-letter, no-first-tab, no_second, no-tab, no-pair, a-recorded}
use Rattle.samples.proofs.Places.{next}
use Rattle.samples.proofs.recorded.entered_at.Goals.{then-lines-at-ne71-via-then-lines-at-ne71, then-lines-at-ne71-via-else-lines-at-ne71+then-lines-at-ne9}
use Rattle.samples.proofs.recorded.entered_at.Goals as goal

pub returns-then-lines-at-ne71 : goal.returns-then-lines-at-ne71
returns-then-lines-at-ne71 c =
    elim c.then-lines-at-ne71.branch [
      | then-lines-at-ne71-via-then-lines-at-ne71 w ↦ no-letter _ _ w.if-lines-at-ne71.true
      | then-lines-at-ne71-via-else-lines-at-ne71+then-lines-at-ne9 w ↦ no-first-tab _ _ w.if-lines-at-ne9.true
    ]

pub returns-in_err-second : goal.returns-in_err-second
returns-in_err-second c = c.from_residual.ensures ∙ no_second _ _ c.in_err-second.ensures

pub bounds-lines-second : goal.bounds-lines-second
bounds-lines-second c = (c.in_ok-second.ensures.sound _ refl).stands.within

pub returns-then-lines-second-ne9 : goal.returns-then-lines-second-ne9
returns-then-lines-second-ne9 c = no-tab _ _ c.in_ok-second.ensures c.if-lines-second-ne9.true

pub returns-in_err-row : goal.returns-in_err-row
returns-in_err-row c = c.from_residual-in_err-row.ensures ∙ no-pair _ _ c.in_ok-second.ensures c.in_err-row.ensures

pub returns : goal.returns
returns c =
    let p = c.in_ok-second.ensures in
    let n = c.in_ok-row.ensures.sound _ refl in
    rw (range_back _ (p.sound _ refl).ranged, range_back _ n.setpoint_ranged, range_back _ n.actual_ranged)
    (a-recorded _ _ p c.in_ok-row.ensures (next c.requires (λ e. omega arith)).within c.if-lines-at-ne71.false c.if-lines-at-ne9.false c.if-lines-second-ne9.false)
