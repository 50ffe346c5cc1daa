-- `settlement::run::Run::longer_tape` meets its contract.
-- Assumes nothing.
use Rattle.std.proofs.Common.{rules, sym, ◌∙◌}
use Rattle.vocabulary.proofs.RefusalLaws.{allowed-ok, allowed-err}
use Rattle.claims.specs.Claims.{samples_of}
use Rattle.records.specs.Tape.{one_recorded}
use Rattle.settlement.specs.Run.{sample_ground}
use Rattle.settlement.proofs.Many.{lacking-err}
use Rattle.settlement.proofs.run.Run.longer_tape.Goals as goal

pub returns-in_err-longer : goal.returns-in_err-longer
unfolding sample_ground one_recorded samples_of
returns-in_err-longer c =
    let told = rw c.interval.ensures at c.with_sample.ensures in
    let e = allowed-err _ _ _ (sym told ∙ c.in_err-longer.was) in
    rw (e, lacking-err c.args.self.load _) (search rules)

pub returns-in_err-lacking_refusal : goal.returns-in_err-lacking_refusal
unfolding sample_ground one_recorded samples_of
returns-in_err-lacking_refusal c =
    let told = rw c.interval.ensures at c.with_sample.ensures in
    let e = allowed-ok _ _ _ (sym told ∙ c.in_ok-longer.was) in
    rw (e.0, sym c.lacking_refusal.ensures ∙ c.in_err-lacking_refusal.was) (search rules)

pub returns : goal.returns
unfolding sample_ground one_recorded samples_of
returns c =
    let told = rw c.interval.ensures at c.with_sample.ensures in
    let e = allowed-ok _ _ _ (sym told ∙ c.in_ok-longer.was) in
    rw (e.0, e.1, sym c.lacking_refusal.ensures ∙ c.in_ok-lacking_refusal.was)
