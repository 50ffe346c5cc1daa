-- `values::value::ceiling` meets its contract.
-- Assumes nothing.
use Rattle.values.specs.Part.{ceiling_of}
use Rattle.values.proofs.value.ceiling.Goals as goal

pub returns : goal.returns
unfolding ceiling_of
returns c = rw (c.most.ensures, c.scaled.ensures)
