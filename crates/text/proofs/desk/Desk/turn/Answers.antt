-- `text::desk::Desk::turn` meets its contract. Assumes nothing.
use Rattle.text.proofs.Telling.{as-turned, refuses, goes_on_lem}
use Rattle.text.specs.Serving.{misplaced_at, placed_turn}
use Rattle.std.proofs.Common.{sym, ap, ◌∙◌}
use Rattle.text.proofs.desk.Desk.turn.Goals as goal

pub returns-in-Err : goal.returns-in-Err
unfolding placed_turn
returns-in-Err c =
    let same = c.misplaced.ensures ∙ ap (misplaced_at c.args.self.stage) c.read-said.ensures in
    as-turned (refuses _ _ _ c.in-Err.refusal (sym same ∙ c.in-Err.is)) c.refused.ensures

pub returns : goal.returns
unfolding placed_turn
returns c =
    let same = c.misplaced.ensures ∙ ap (misplaced_at c.args.self.stage) c.read-said.ensures in
    as-turned (goes_on_lem _ _ _ (sym same ∙ c.in_default.is)) (rw (← c.read-said.ensures) c.served.ensures)
