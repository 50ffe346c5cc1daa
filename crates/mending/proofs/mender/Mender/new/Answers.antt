-- `mending::mender::Mender::new` meets its contract. Assumes nothing.
use Rattle.std.proofs.Common.{refl}
use Rattle.mending.specs.Mender.{empty_mender}
use Rattle.mending.proofs.mender.Mender.new.Goals as goal

pub returns : goal.returns
unfolding empty_mender
returns c = refl
