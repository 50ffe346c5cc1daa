-- `samples::recorded::recorded_at` meets its contract. Assumes nothing.
use Rattle.samples.proofs.RecordedScan.{past_end, open-end, ended-lines}
use Rattle.samples.proofs.recorded.recorded_at.Goals.{then-lines-at-via-then-lines-at, then-lines-at-via-else-lines-at+then-lines-ne-LF}
use Rattle.samples.proofs.recorded.recorded_at.Goals as goal

pub returns-then-lines-at : goal.returns-then-lines-at
returns-then-lines-at c =
    elim c.then-lines-at.branch [
      | then-lines-at-via-then-lines-at w ↦ past_end _ _ w.if-lines-at.true
      | then-lines-at-via-else-lines-at+then-lines-ne-LF w ↦ open-end _ _ w.if-lines-ne-LF.true
    ]

pub returns : goal.returns
returns c = ended-lines _ _ c.if-lines-ne-LF.false c.entered_at.ensures
