-- `mendfeed::Reader::stretch_at` meets its contract. Assumes nothing.
use Rattle.std.proofs.Common.{arith}
use Rattle.mendfeed.proofs.RowLaws.{tried-none, tried-some}
use Rattle.mendfeed.proofs.Reader.stretch_at.Goals as goal

pub rows_at-done-requires : goal.rows_at-done-requires
rows_at-done-requires c = record {
  cut = c.requires.cut;
  runnable = record { few = omega arith; within = omega (arith, c.requires.at_in_bounds); room = c.requires.from_in_bounds };
}

pub returns-then-done-eq0 : goal.returns-then-done-eq0
returns-then-done-eq0 c = tried-none {reader = c.args.self} c.rows_at-done.ensures c.if-done-eq0.true

pub overflow_sub-result : goal.overflow_sub-result
overflow_sub-result c = omega (arith, c.rows_at-done.ensures.far, c.rows_at-done.ensures.up)

pub returns : goal.returns
returns c = tried-some {reader = c.args.self} c.rows_at-done.ensures c.requires.start c.count.ensures c.if-done-eq0.false c.past.ensures
