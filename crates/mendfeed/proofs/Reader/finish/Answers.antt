-- `mendfeed::Reader::finish` meets its contract. Assumes nothing.
use Rattle.mendfeed.proofs.ReaderLaws.{too_short, finished}
use Rattle.mendfeed.proofs.Reader.finish.Goals as goal

pub returns-then-out-lt-ROOM : goal.returns-then-out-lt-ROOM
returns-then-out-lt-ROOM c = too_short _ _ _ c.if-out-lt-ROOM.true

pub returns : goal.returns
returns c = finished {reader = c.args.self} c.if-out-lt-ROOM.false c.count.ensures c.finish-told.ensures
