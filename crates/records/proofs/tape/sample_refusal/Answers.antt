-- `records::tape::sample_refusal` meets its contract: each test is that of the definition, in its order.
-- Assumes nothing.
use Rattle.std.proofs.Common.{rules, arith, Bool, true, ◌≡◌, ◌∙◌, sym, not, ◌||◌}
use borrow.Author.Tests.{le-leb, lt-leb}
use Rattle.vocabulary.specs.Sample.{power_in_range}
use Rattle.records.specs.Tape.{sample_refusal}
use Rattle.records.proofs.tape.sample_refusal.Goals.{then-samples-filled-via-then-samples-filled, then-samples-filled-via-else-samples-filled+then-quarters-taken, then-not-in_range-via-then-not-in_range, then-not-in_range-via-else-not-in_range+then-not-in_range-2}
use Rattle.records.proofs.tape.sample_refusal.Goals as goal

pub returns-then-samples-filled : goal.returns-then-samples-filled
unfolding sample_refusal
returns-then-samples-filled c =
    record {
      is = elim c.then-samples-filled.branch [
        | then-samples-filled-via-then-samples-filled w ↦ rw (le-leb _ _ w.if-samples-filled.true)
        | then-samples-filled-via-else-samples-filled+then-quarters-taken w ↦ rw (lt-leb _ _ w.if-samples-filled.false, le-leb _ _ w.if-quarters-taken.true)
      ];
      room = λ h. absurd (omega arith);
    }

pub returns-then-not-in_range : goal.returns-then-not-in_range
unfolding sample_refusal
returns-then-not-in_range c =
    let setpoint : c.in_range.result ≡ power_in_range c.args.sample.setpoint = search rules in
    record {
      is = rw (lt-leb _ _ c.if-samples-filled.false, lt-leb _ _ c.if-quarters-taken.false) (
          elim c.then-not-in_range.branch [
            | then-not-in_range-via-then-not-in_range w ↦ rw (← setpoint, w.if-not-in_range.true)
            | then-not-in_range-via-else-not-in_range+then-not-in_range-2 w ↦
                let actual : w.in_range-else-not-in_range.result ≡ power_in_range c.args.sample.actual = search rules in
                rw (← setpoint, w.if-not-in_range.false, ← actual, w.if-not-in_range-2.true)
          ]);
      room = λ h. absurd (omega arith);
    }

pub returns : goal.returns
unfolding sample_refusal
returns c =
    let setpoint : c.in_range.result ≡ power_in_range c.args.sample.setpoint = search rules in
    let actual : c.in_range-else-not-in_range.result ≡ power_in_range c.args.sample.actual = search rules in
    record {
      is = rw (lt-leb _ _ c.if-samples-filled.false, lt-leb _ _ c.if-quarters-taken.false, ← setpoint, c.if-not-in_range.false, ← actual, c.if-not-in_range-2.false);
      room = λ h. c.if-samples-filled.false;
    }
