-- `mendfeed::rows_at` meets its contract. Assumes nothing.
use Rattle.std.proofs.Common.{refl, arith}
use Rattle.mendfeed.proofs.RowLaws.{none_more, runs_then, runs-length}
use Rattle.mendfeed.proofs.rows_at.Goals as goal

pub loop-so-init : goal.loop-so-init
loop-so-init c = none_more c.requires.runnable (omega arith)

pub row_at-requires : goal.row_at-requires
row_at-requires c = record {
  cut = c.requires.cut;
  runnable = c.loop-so.invariant.still;
  to_lt_end = c.loop-so-test.true;
}

pub returns-in_default : goal.returns-in_default
returns-in_default c = rw (c.in_default.ensures.none refl) c.loop-so.invariant

pub loop-so-smaller : goal.loop-so-smaller
loop-so-smaller c = omega (arith, (c.in-Some.ensures.runs _ refl).far, c.in-Some.ensures.one _ refl, c.loop-so-test.true)

pub loop-so-preserved : goal.loop-so-preserved
loop-so-preserved c = runs_then c.loop-so.invariant (c.in-Some.ensures.runs _ refl)

pub shape_of-out : goal.shape_of-out
shape_of-out c = runs-length c.loop-so.invariant

pub returns : goal.returns
returns c = c.loop-so.invariant
