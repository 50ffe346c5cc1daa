-- `mending::mender::Mender::finish` meets its contract. Assumes nothing.
use Rattle.std.proofs.Common.{sym, refl, ◌∙◌, arith}
use Rattle.mending.proofs.TurnLaws.{as-turn, silent, finish-closed, finish-open}
use Rattle.mending.proofs.mender.Mender.finish.Goals as goal

pub returns-then-is_closed : goal.returns-then-is_closed
returns-then-is_closed c =
    as-turn (sym (finish-closed c.args.self c.args.count (sym c.is_closed.ensures ∙ c.if-is_closed.true))) (silent (omega arith) (omega arith) refl refl)

pub returns : goal.returns
returns c = as-turn (sym (finish-open c.args.self c.args.count (sym c.is_closed.ensures ∙ c.if-is_closed.false))) c.refused.ensures
