-- `lines::Gatherer::fresh` meets its contract. Assumes nothing.
use Rattle.lines.specs.Gathering.{fresh_of}
use Rattle.lines.proofs.Gatherer.fresh.Goals as goal

pub returns : goal.returns
unfolding fresh_of
returns c = c.blank.ensures
