-- `mending::mender::Mender::sorted_row` meets its contract. Assumes nothing.
use Rattle.std.proofs.Common.{sym, ap, arith}
use Rattle.vocabulary.specs.Refusals.{accepted}
use Rattle.mending.specs.Mender.{sorted_turn}
use Rattle.mending.proofs.TurnLaws.{as-turn, printed, refuses, goes_on, sorted_none}
use Rattle.mending.proofs.mender.Mender.sorted_row.Goals as goal

pub put_sorted-requires : goal.put_sorted-requires
put_sorted-requires c = sorted_none c.args.self c.args.sorted c.args.row (ap accepted (sym c.in-Ok.ensures))

pub returns-in-Ok : goal.returns-in-Ok
unfolding sorted_turn
returns-in-Ok c = as-turn (goes_on c.args.self c.args.number _ c.in-Ok.ensures) (printed _ (omega arith) c.with_row.ensures c.put_sorted.ensures)

pub returns-in-Err : goal.returns-in-Err
unfolding sorted_turn
returns-in-Err c = as-turn (refuses c.args.self c.args.number _ c.in-Err.ensures) c.refused.ensures
