-- `text::desk::Desk::open` meets its contract. Assumes nothing.
use Rattle.text.proofs.Telling.{as-turned, refuses, goes_on_lem, allowed-value, allowed-not}
use Rattle.text.specs.Desk.{open_turn}
use Rattle.text.specs.Serving.{begun_turn}
use Rattle.std.proofs.Common.{sym, ap, ◌∙◌}
use Rattle.text.proofs.desk.Desk.open.Goals as goal

pub returns-in-Ok : goal.returns-in-Ok
unfolding open_turn
returns-in-Ok c =
    let opened = allowed-value _ (sym c.«open».ensures ∙ c.in-Ok.is) in
    as-turned (ap begun_turn (sym opened.1) ∙ goes_on_lem _ _ _ opened.0) c.begun.ensures

pub returns-in-Err : goal.returns-in-Err
unfolding open_turn
returns-in-Err c = as-turned (refuses _ _ _ c.in-Err.refusal (allowed-not _ _ (sym c.«open».ensures ∙ c.in-Err.is))) c.refused.ensures
