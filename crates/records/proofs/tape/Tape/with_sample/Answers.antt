-- `records::tape::Tape::with_sample` meets its contract.
-- Assumes nothing.
use Rattle.std.proofs.Common.{rules, arith, ◌≡◌, ◌≤◌, ◌∙◌, sym}
use Rattle.claims.proofs.Quarters.{samples-few}
use Rattle.records.specs.Tape.{one_recorded}
use Rattle.records.proofs.tape.Tape.with_sample.Goals as goal

pub returns-in_err-sample_refusal : goal.returns-in_err-sample_refusal
unfolding one_recorded
returns-in_err-sample_refusal c =
    let e = rw c.windows-samples.ensures at c.sample_refusal.ensures.is in
    rw (← e, c.in_err-sample_refusal.was) (search rules)

pub returns : goal.returns
unfolding one_recorded
returns c =
    let e = rw c.windows-samples.ensures at c.sample_refusal.ensures.is in
    rw (← e, c.in_ok-sample_refusal.was, c.with.ensures)
