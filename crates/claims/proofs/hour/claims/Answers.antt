-- `claims::hour::claims` meets its contract.
-- Assumes nothing.
use Rattle.claims.specs.Views.{claims_by}
use Rattle.claims.proofs.hour.claims.Goals as goal

pub returns : goal.returns
unfolding claims_by
returns c = rw (c.joined.ensures, c.sliced-5.ensures, c.sliced-4.ensures, c.sliced-3.ensures, c.sliced-2.ensures, c.sliced.ensures)
