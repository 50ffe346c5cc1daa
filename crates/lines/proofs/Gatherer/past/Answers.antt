-- `lines::Gatherer::past` meets its contract. Assumes nothing.
use Rattle.lines.specs.Gathering.{past_of}
use Rattle.lines.proofs.Gatherer.past.Goals as goal

pub returns : goal.returns
unfolding past_of
returns c = c.blank.ensures
