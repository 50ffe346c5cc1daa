-- `mendfeed::Reader::new` meets its contract. Assumes nothing.
use Rattle.mendfeed.specs.Reader.{empty_reader}
use Rattle.mendfeed.proofs.Reader.new.Goals as goal

pub returns : goal.returns
unfolding empty_reader
returns c = λ i. record { gatherer = c.new.ensures i; mender = c.new-2.ensures i }
