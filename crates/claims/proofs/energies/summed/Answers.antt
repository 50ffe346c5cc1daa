-- `claims::energies::summed` meets its contract.
-- Assumes nothing.
use Rattle.claims.specs.Views.{sums_by}
use Rattle.claims.proofs.energies.summed.Goals as goal

pub returns : goal.returns
unfolding sums_by
returns c = rw (c.pieces_short.ensures, c.pieces-3.ensures, c.pieces-2.ensures, c.pieces_delivered.ensures.0, c.pieces.ensures)
