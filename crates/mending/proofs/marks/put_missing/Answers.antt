-- `mending::marks::put_missing` meets its contract. Assumes nothing.
use Rattle.std.proofs.Common.{arith}
use Rattle.mending.proofs.MissingLaws.{one-put, all-put}
use Rattle.mending.proofs.marks.put_missing.Goals as goal

pub loop-place-preserved : goal.loop-place-preserved
loop-place-preserved c =
    one-put c.args.grid c.args.sample c.args.from c.args.until c.loop-place.place (omega (arith, c.loop-place-test.true, c.from-place-end.ensures))
    c.loop-place.invariant c.put_filled-next.ensures

pub returns : goal.returns
returns c =
    all-put c.args.grid c.args.sample c.args.from c.args.until c.loop-place.place (omega (arith, c.loop-place-test.false, c.from-place-end.ensures))
    c.requires c.loop-place.invariant
