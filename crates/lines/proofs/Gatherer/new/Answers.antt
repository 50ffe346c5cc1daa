-- `lines::Gatherer::new` meets its contract. Assumes nothing.
use Rattle.lines.specs.Gathering.{empty_gatherer}
use Rattle.lines.proofs.Gatherer.new.Goals as goal

pub returns : goal.returns
unfolding empty_gatherer
returns c = c.blank.ensures
