-- `values::value::floor` meets its contract.
-- Assumes nothing.
use Rattle.values.specs.Part.{floor_of}
use Rattle.values.proofs.value.floor.Goals as goal

pub returns : goal.returns
unfolding floor_of
returns c = rw (c.least.ensures, c.scaled.ensures)
