-- `feed::Reader::finish` meets its contract. Assumes nothing.
use mathlib.Core.Path.{refl}
use Rattle.feed.proofs.ReaderLaws.{too_short, finished}
use Rattle.feed.proofs.Reader.finish.Goals as goal

pub returns-then-out-lt-BUFFER : goal.returns-then-out-lt-BUFFER
returns-then-out-lt-BUFFER c = too_short _ _ _ c.if-out-lt-BUFFER.true

pub returns : goal.returns
returns c = finished {reader = c.args.self} c.if-out-lt-BUFFER.false c.count.ensures c.finish-told.ensures refl
