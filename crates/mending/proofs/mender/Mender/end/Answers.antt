-- `mending::mender::Mender::end` meets its contract. Assumes nothing.
use Rattle.std.proofs.Common.{sym, ap, arith}
use Rattle.vocabulary.specs.Refusals.{accepted}
use Rattle.mending.specs.Mender.{end_turn}
use Rattle.mending.proofs.TurnLaws.{as-turn, printed, refuses, goes_on}
use Rattle.mending.proofs.MenderLaws.{end_short}
use Rattle.mending.proofs.mender.Mender.end.Goals as goal

pub put_rest-requires : goal.put_rest-requires
put_rest-requires c = end_short c.args.self (ap accepted (sym c.in-Ok.ensures))

pub returns-in-Ok : goal.returns-in-Ok
unfolding end_turn
returns-in-Ok c = as-turn (goes_on c.args.self c.args.number _ c.in-Ok.ensures) (printed _ (omega arith) c.closed.ensures c.put_rest.ensures)

pub returns-in-Err : goal.returns-in-Err
unfolding end_turn
returns-in-Err c = as-turn (refuses c.args.self c.args.number _ c.in-Err.ensures) c.refused.ensures
