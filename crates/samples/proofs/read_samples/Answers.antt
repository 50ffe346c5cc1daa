-- `samples::read_samples` meets its contract: the block up to its last LF has all its complete lines.
-- Assumes nothing.
use Rattle.samples.proofs.BlockLaws.{nothing_read, none-past, no_room, whole-block}
use Rattle.samples.proofs.read_samples.Goals.{then-end-at-via-then-end-at, then-end-at-via-else-end-at+then-most-filled}
use Rattle.samples.proofs.read_samples.Goals as goal

pub returns-then-end-at : goal.returns-then-end-at
returns-then-end-at c =
    elim c.then-end-at.branch [
      | then-end-at-via-then-end-at w ↦ nothing_read _ _ _ _ _ (none-past _ _ c.complete-end.ensures w.if-end-at.true)
      | then-end-at-via-else-end-at+then-most-filled w ↦ nothing_read _ _ _ _ _ (no_room _ _ _ _ c.min.ensures c.min-most.ensures _ w.if-most-filled.true)
    ]

pub returns : goal.returns
returns c = whole-block _ _ _ _ c.min.ensures c.min-most.ensures c.complete-end.ensures c.if-end-at.false c.stored.ensures
