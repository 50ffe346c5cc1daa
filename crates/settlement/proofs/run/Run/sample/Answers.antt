-- `settlement::run::Run::sample` meets its contract: what a sample makes of a run is what it makes of its tape.
-- Assumes nothing.
use Rattle.std.proofs.Common.{sym, ◌∙◌}
use Rattle.vocabulary.proofs.Answers.{err-refused}
use Rattle.vocabulary.proofs.RefusalLaws.{allowed-ok, allowed-err}
use Rattle.settlement.specs.Run.{sampled_of, sampled}
use Rattle.settlement.proofs.run.Run.sample.Goals as goal

pub returns-in-Ok : goal.returns-in-Ok
unfolding sampled_of sampled
returns-in-Ok c =
    let e = allowed-ok _ _ _ (sym c.longer_tape.ensures ∙ c.in-Ok.is) in
    rw (e.0, e.1)

pub returns-in-Err : goal.returns-in-Err
unfolding sampled_of
returns-in-Err c =
    let e = allowed-err _ _ _ (sym c.longer_tape.ensures ∙ c.in-Err.is) in
    rw (e, err-refused c.in-Err.refusal)
