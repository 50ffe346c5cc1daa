-- `values::value::acceptance` meets its contract.
-- Assumes nothing.
use Rattle.values.specs.Part.{acceptance_of}
use Rattle.values.proofs.value.acceptance.Goals as goal

pub returns : goal.returns
unfolding acceptance_of
returns c = rw (c.least.ensures, c.scaled.ensures)
