-- `mendfeed::Reader::feed` meets its contract. Assumes nothing.
use Rattle.mendfeed.proofs.ReaderLaws.{too_short, fed-whole}
use Rattle.mendfeed.proofs.Reader.feed.Goals as goal

pub returns-then-out-lt-ROOM : goal.returns-then-out-lt-ROOM
returns-then-out-lt-ROOM c = too_short _ _ _ c.if-out-lt-ROOM.true

pub returns : goal.returns
returns c = fed-whole c.if-out-lt-ROOM.false c.read_on-moved.ensures
