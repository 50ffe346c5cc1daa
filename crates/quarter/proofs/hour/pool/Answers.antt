-- `quarter::hour::pool` meets its contract.
-- Assumes nothing.
use Rattle.quarter.specs.Quarter.{pool_of}
use Rattle.quarter.proofs.hour.pool.Goals as goal

pub returns : goal.returns
unfolding pool_of
returns c = rw c.summed-sums.ensures
