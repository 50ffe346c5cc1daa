-- `mending::mender::Mender::open` meets its contract. Assumes nothing.
use Rattle.std.proofs.Common.{sym, refl, ap, ◌∙◌, arith}
use Rattle.settlement.proofs.HeaderLaws.{opened-quarters}
use Rattle.mending.specs.Mender.{opened_by, open_turn}
use Rattle.mending.proofs.TurnLaws.{as-turn, silent, refuses, goes_on}
use Rattle.mending.proofs.mender.Mender.open.Goals as goal

pub grid_of-requires : goal.grid_of-requires
grid_of-requires c = (opened-quarters c.args.header (sym c.in-Ok.ensures)).1

pub returns-in-Ok : goal.returns-in-Ok
unfolding open_turn
returns-in-Ok c =
    as-turn (goes_on c.args.self c.args.number _ c.in-Ok.ensures)
    (silent (omega arith) (omega arith) (c.opened.ensures ∙ ap (opened_by c.args.self) c.grid_of.ensures) refl)

pub returns-in-Err : goal.returns-in-Err
unfolding open_turn
returns-in-Err c = as-turn (refuses c.args.self c.args.number _ c.in-Err.ensures) c.refused.ensures
