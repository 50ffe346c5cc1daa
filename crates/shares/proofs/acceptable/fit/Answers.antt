-- `shares::acceptable::fit` meets its contract, test by test.
-- Assumes nothing.
use mir.ValLaws.{to_z-of_z}
use mir.Syntax.{w32}
use borrow.Author.Tests.{eq-eqb, ne_eqb}
use Rattle.shares.specs.Acceptable.{fit_of}
use Rattle.shares.proofs.acceptable.fit.Goals as goal

pub returns-then-share-lt0 : goal.returns-then-share-lt0
unfolding fit_of
returns-then-share-lt0 c =
    let e = to_z-of_z w32 c.args.share c.ranges.share in
    rw (rw e at c.if-share-lt0.true)

pub returns-then-total-eq0 : goal.returns-then-total-eq0
unfolding fit_of
returns-then-total-eq0 c =
    let e = to_z-of_z w32 c.args.share c.ranges.share in
    rw (
      rw e at c.if-share-lt0.false,
      eq-eqb _ _ c.if-total-eq0.true,
      c.from-kwh.ensures,
      c.above_zero.ensures,
      e,
    )

pub returns : goal.returns
unfolding fit_of
returns c =
    let e = to_z-of_z w32 c.args.share c.ranges.share in
    rw (
      rw e at c.if-share-lt0.false,
      ne_eqb _ _ c.if-total-eq0.false,
      c.near.ensures,
      c.from-kwh.ensures,
      c.above_zero.ensures,
      e,
      c.from.ensures,
    )
