-- `mendfeed::Reader::read_on` meets its contract. Assumes nothing.
use Rattle.std.proofs.Common.{sym, ◌∙◌, arith}
use Rattle.mendfeed.proofs.ReaderLaws.{so-none, so-then, so-closed, so-full, so-done}
use Rattle.mendfeed.proofs.Reader.read_on.Goals as goal

pub loop-i-init : goal.loop-i-init
loop-i-init c = (omega arith, so-none _ _ _ (omega arith) (omega arith))

pub loop-i-preserved : goal.loop-i-preserved
loop-i-preserved c =
    let steps = c.step-moved.ensures in
    (omega (arith, steps.within), so-then c.loop-i.invariant.1 steps.so)

pub returns-else-out-next-ge-ROOM : goal.returns-else-out-next-ge-ROOM
returns-else-out-next-ge-ROOM c =
    so-full c.loop-i.invariant.1 (sym c.is_closed.ensures ∙ c.if-not-is_closed.true) c.if-out-next-ge-ROOM.false

pub returns-else-not-is_closed : goal.returns-else-not-is_closed
returns-else-not-is_closed c = so-closed c.loop-i.invariant.1 (sym c.is_closed.ensures ∙ c.if-not-is_closed.false)

pub returns-after-loop-i : goal.returns-after-loop-i
returns-after-loop-i c = so-done c.loop-i.invariant.1 c.loop-i-test.false
