-- `sharefeed::Reader::feed` meets its contract. The invariant: what is left of the block leads from here to where the whole block leads from the start. Assumes nothing.
use native.Mathlib.Omega.{arith}
use Rattle.std.proofs.Common.{rules}
use Prim.Native.Nat.{◌-◌, ◌≤◌}
use mathlib.Core.Path.{◌≡◌, refl, ◌∙◌}
use lib.ListN.{length, drop, drop_of_length-le}
use Rattle.judging.specs.Kept.{kept_in}
use Rattle.checking.specs.Checker.{standing}
use Rattle.sharefeed.specs.Reader.{progress, feed_of}
use Rattle.sharefeed.proofs.Stepping.{at-end, part-of-block}
use Rattle.sharefeed.proofs.Reader.feed.Goals as goal

pub loop-i-init : goal.loop-i-init
loop-i-init c = (omega arith, refl, record { gaps = refl; surpluses = refl; shares = refl })

pub overflow_add-i : goal.overflow_add-i
overflow_add-i c =
    let l = c.loop-i in
    let step = part-of-block l.self.gatherer (standing l.self.checker (kept_in l.kept)) c.args.block.now l.i c.gather-part.result c.loop-i-test.true c.gather-part.ensures c.after.ensures.is in
    omega (arith, step.within, c.well_formed)

pub loop-i-smaller : goal.loop-i-smaller
loop-i-smaller c =
    let l = c.loop-i in
    let step = part-of-block l.self.gatherer (standing l.self.checker (kept_in l.kept)) c.args.block.now l.i c.gather-part.result c.loop-i-test.true c.gather-part.ensures c.after.ensures.is in
    omega (arith, step.some, step.within)

pub loop-i-preserved : goal.loop-i-preserved
loop-i-preserved c =
    let l = c.loop-i in
    let step = part-of-block l.self.gatherer (standing l.self.checker (kept_in l.kept)) c.args.block.now l.i c.gather-part.result c.loop-i-test.true c.gather-part.ensures c.after.ensures.is in
    let same = l.invariant.2 in
    let still = c.after.ensures.same in
    (omega (arith, step.within), l.invariant.1 ∙ step.is, record { gaps = same.gaps ∙ still.gaps; surpluses = same.surpluses ∙ still.surpluses; shares = same.shares ∙ still.shares })

pub returns-clause-same : goal.returns-clause-same
returns-clause-same c = c.loop-i.invariant.2

pub returns-clause-is : goal.returns-clause-is
returns-clause-is c = c.loop-i.invariant.1 ∙ at-end _ _ _ (drop_of_length-le _ c.loop-i-test.false)
