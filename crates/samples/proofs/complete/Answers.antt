-- `samples::complete` meets its contract. The loop's invariant: no complete line starts at `place` or after it. Assumes nothing.
use Rattle.std.proofs.Common.{arith}
use Rattle.samples.proofs.CutLaws.{whole, byte-before}
use Rattle.samples.proofs.complete.Goals as goal

pub loop-place-init : goal.loop-place-init
loop-place-init c = whole c.args.block.now

pub loop-place-preserved : goal.loop-place-preserved
loop-place-preserved c = byte-before c.args.block.now c.loop-place.place (omega arith) (omega arith) c.if-block-place-eq-LF.false c.loop-place.invariant
