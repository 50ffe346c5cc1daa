-- `mendfeed::Reader::step` meets its contract. Assumes nothing.
use Rattle.std.proofs.Common.{refl, arith}
use Rattle.lines.proofs.FeedLaws.{start_of}
use Rattle.mendfeed.proofs.ReaderLaws.{line-steps, line-steps-then}
use Rattle.mendfeed.proofs.Reader.step.Goals as goal

pub returns-then-not-at_start : goal.returns-then-not-at_start
returns-then-not-at_start c = line-steps c.requires.stage_value c.requires.line_room_in_bounds c.line_at.ensures

pub stretch_at-requires : goal.stretch_at-requires
stretch_at-requires c = record {
  cut = c.requires.cut;
  at_in_bounds = c.requires.at_in_bounds;
  from_in_bounds = omega (arith, c.requires.line_room_in_bounds);
  start = start_of c.at_start.ensures c.if-not-at_start.false;
}

pub returns-in-Some : goal.returns-in-Some
returns-in-Some c = c.in-Some.ensures.some _ refl

pub returns-in-None : goal.returns-in-None
returns-in-None c = line-steps-then c.requires.stage_value c.requires.line_room_in_bounds (c.in-None.ensures.none refl) c.line_at-in-None.ensures
