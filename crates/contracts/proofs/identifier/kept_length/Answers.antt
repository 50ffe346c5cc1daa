-- `contracts::identifier::kept_length` meets its contract.
-- Assumes nothing.
use Rattle.std.proofs.Common.{arith}
use Rattle.arithmetic.specs.Whole.{least_of}
use Rattle.contracts.specs.Identifier.{kept_length}
use Rattle.contracts.proofs.identifier.kept_length.Goals as goal

pub returns : goal.returns
unfolding kept_length least_of
returns c = omega (arith, c.min.ensures)
