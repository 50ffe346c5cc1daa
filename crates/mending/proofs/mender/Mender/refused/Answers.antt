-- `mending::mender::Mender::refused` meets its contract. Assumes nothing.
use Rattle.mending.proofs.TurnLaws.{refused-told}
use Rattle.mending.proofs.mender.Mender.refused.Goals as goal

pub returns : goal.returns
returns c = refused-told _ _ _ c.closed.ensures c.put_refusal-next.ensures
