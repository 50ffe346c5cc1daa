-- `claims::energies::pieces_short` meets its contract.
-- Assumes nothing.
use Rattle.claims.proofs.energies.pieces_short.Goals as goal

pub returns : goal.returns
returns c = rw (c.saturating_sub.ensures, c.excesses.ensures, c.pieces-part.ensures, c.pieces-all.ensures)
