-- `lines::Gatherer::gather` meets its contract. The loop's invariant: what is gathered from the whole block is what is gathered from byte i on,
-- by a gatherer that has the loop's bytes and length. Assumes nothing.
use Rattle.std.proofs.Common.{◌≡◌, length as size, sym, ap, ◌∙◌, arith, length-set}
use Rattle.lines.specs.Gathering.{completed}
use Rattle.lines.proofs.Reading.{kept, overlong, line-ends, byte_more, block-ends}
use Rattle.lines.proofs.Gatherer.gather.Goals.{then-has_room, else-has_room}
use Rattle.lines.proofs.Gatherer.gather.Goals as goal

pub returns-then-byte-eq-LF : goal.returns-then-byte-eq-LF
unfolding completed
returns-then-byte-eq-LF c =
    sym (c.loop-i.invariant.1 ∙ line-ends _ _ _ c.loop-i-test.true c.if-byte-eq-LF.true)

pub loop-i-preserved : goal.loop-i-preserved
loop-i-preserved c =
    let inv = c.loop-i.invariant in
    elim c.if-has_room.branch [
      | then-has_room w ↦ (
        ap size w.bytes-is ∙ simp length-set inv.0,
        inv.1
            ∙ byte_more _ _ _ c.loop-i-test.true c.if-byte-eq-LF.false _
            (rw (w.bytes-is, w.length-is) (kept _ _ w.if-has_room.true)),
      )
      | else-has_room w ↦ (
        ap size w.bytes-is ∙ inv.0,
        inv.1
            ∙ byte_more _ _ _ c.loop-i-test.true c.if-byte-eq-LF.false _
            (rw (w.bytes-is, w.length-is) (overlong _ _ w.if-has_room.false)),
      )
    ]

pub returns : goal.returns
returns c =
    let e : c.loop-i.i ≡ size c.args.block.now = omega arith in
    sym (rw e at (c.loop-i.invariant.1 ∙ block-ends _ _ _ c.loop-i-test.false))
