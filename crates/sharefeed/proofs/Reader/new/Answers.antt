-- `sharefeed::Reader::new` meets its contract. Assumes nothing.
use Rattle.sharefeed.specs.Reader.{empty_reader}
use Rattle.sharefeed.proofs.Reader.new.Goals as goal

pub returns : goal.returns
unfolding empty_reader
returns c = rw (c.new.ensures, c.new-2.ensures)
