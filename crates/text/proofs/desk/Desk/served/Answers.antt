-- `text::desk::Desk::served` meets its contract. What the run answers, and then what follows. Assumes nothing.
use Rattle.text.proofs.Telling.{as-turned, refuses, goes_on_lem, served-asked}
use Rattle.settlement.specs.declared.run.Answer.{Answer}
use Rattle.std.proofs.Common.{sym, ap, ◌∙◌}
use Rattle.text.proofs.desk.Desk.served.Goals as goal

pub returns-in-Err : goal.returns-in-Err
returns-in-Err c =
    let same = sym (ap (λ (a : Answer). a.refusal) c.asked-answer.ensures) ∙ c.in-Err.is in
    as-turned (served-asked _ _ _ _) (as-turned (refuses _ _ _ c.in-Err.refusal same) c.refused.ensures)

pub returns : goal.returns
returns c =
    let same = sym (ap (λ (a : Answer). a.refusal) c.asked-answer.ensures) ∙ c.in_default.is in
    as-turned (served-asked _ _ _ _) (as-turned (goes_on_lem _ _ _ same) (rw (← c.asked-answer.ensures) c.followed.ensures))
