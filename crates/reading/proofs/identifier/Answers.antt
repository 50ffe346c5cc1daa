-- `reading::identifier` meets its contract. Assumes nothing.
use Rattle.reading.specs.Line.{identifier_of}
use Rattle.reading.proofs.identifier.Goals as goal

pub returns : goal.returns
unfolding identifier_of
returns c = rw (← c.of.ensures) c.field.ensures
