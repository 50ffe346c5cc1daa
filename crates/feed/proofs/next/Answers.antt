-- `feed::next` meets its contract. Assumes nothing.
use Rattle.lines.proofs.FeedLaws.{start_of}
use Rattle.feed.proofs.ReaderLaws.{found-line, found-stretch, same-arrays}
use native.Mathlib.Omega.{arith}
use mathlib.Core.Path.{refl}
use Rattle.feed.proofs.next.Goals as goal

pub returns-then-not-at_start : goal.returns-then-not-at_start
returns-then-not-at_start c = found-line c.line_at.ensures refl refl

pub overflow_add-filled : goal.overflow_add-filled
overflow_add-filled c = omega (arith, c.requires.room_bound, c.ranges)

pub returns-then-read-eq0 : goal.returns-then-read-eq0
returns-then-read-eq0 c = let s = same-arrays c.read_samples-read.ensures c.if-read-eq0.true in found-line c.line_at-then-read-eq0.ensures s.0 s.1

pub returns : goal.returns
returns c = found-stretch (start_of c.at_start.ensures c.if-not-at_start.false) c.read_samples-read.ensures c.if-read-eq0.false c.past.ensures
