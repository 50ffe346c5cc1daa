-- `sharefeed::Reader::finish` meets its contract. Assumes nothing.
use Rattle.sharefeed.proofs.Reader.finish.Goals as goal

pub returns : goal.returns
returns c = rw (← c.count.ensures) c.finish.ensures
