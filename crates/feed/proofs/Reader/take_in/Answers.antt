-- `feed::Reader::take_in` meets its contract. Assumes nothing.
use Rattle.std.proofs.Common.{refl}
use Rattle.feed.proofs.ReaderLaws.{too_short, fed-whole}
use Rattle.feed.proofs.Reader.take_in.Goals as goal

pub returns-then-out-lt-BUFFER : goal.returns-then-out-lt-BUFFER
returns-then-out-lt-BUFFER c = too_short _ _ _ c.if-out-lt-BUFFER.true

pub returns : goal.returns
returns c =
    let apart = c.apart.ensures in
    let reads = rw (apart.rest, apart.powers.0, apart.powers.1) at c.read_on-moved.ensures in
    rw c.whole-self.ensures (fed-whole c.if-out-lt-BUFFER.false refl reads)
