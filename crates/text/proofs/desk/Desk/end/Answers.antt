-- `text::desk::Desk::end` meets its contract. Assumes nothing.
use Rattle.text.proofs.Telling.{turned, as-turned, refuses, goes_on_lem}
use Rattle.text.specs.Desk.{end_turn}
use Rattle.settlement.specs.declared.run.Ended.{Ended}
use Rattle.std.proofs.Common.{refl, sym, ap, ◌∙◌}
use Rattle.text.proofs.desk.Desk.end.Goals as goal

pub returns-in-Err : goal.returns-in-Err
unfolding end_turn
returns-in-Err c =
    let same = sym (ap (λ (e : Ended). e.refusal) c.end-ended.ensures) ∙ c.in-Err.is in
    as-turned (refuses _ _ _ c.in-Err.refusal same) c.refused.ensures

pub returns : goal.returns
unfolding end_turn
returns c =
    let p = c.print_closing-printed.ensures in
    let same = sym (ap (λ (e : Ended). e.refusal) c.end-ended.ensures) ∙ c.in_default.is in
    as-turned (goes_on_lem _ _ _ same) (rw (← c.end-ended.ensures) (turned refl p.answer p.bytes p.room))
