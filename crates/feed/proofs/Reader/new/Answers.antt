-- `feed::Reader::new` meets its contract. Assumes nothing.
use Rattle.feed.specs.Reader.{empty_reader}
use Rattle.feed.proofs.Reader.new.Goals as goal

pub returns : goal.returns
unfolding empty_reader
returns c = λ i. record { gatherer = c.new.ensures i; desk = c.new-2.ensures i }
