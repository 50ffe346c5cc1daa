-- `mending::mender::Mender::put_rest` meets its contract. Assumes nothing.
use Rattle.mending.specs.Mender.{rest_items}
use Rattle.mending.proofs.mender.Mender.put_rest.Goals as goal

pub returns : goal.returns
unfolding rest_items
returns c = c.put_missing.ensures
