-- `settlement::bare::Bare::take` meets its contract.
-- Assumes nothing.
use Rattle.std.proofs.Common.{ap, ◌∙◌, ◌≡◌, Ok}
use Rattle.vocabulary.proofs.RefusalLaws.{accepted-err}
use Rattle.vocabulary.proofs.Answers.{accepted-none}
use Rattle.vocabulary.specs.Refusals.{number_of}
use Rattle.records.specs.Tape.{rewound}
use Rattle.settlement.specs.Run.{taken_of, take_ground, settled_of, quarter_in}
use Rattle.settlement.proofs.bare.Bare.take.Goals as goal

pub returns-then-is_err : goal.returns-then-is_err
unfolding taken_of take_ground
returns-then-is_err c =
    let e = rw c.samples_of-samples.ensures.0 at c.take_refusal-refusal.ensures.0 in
    rw (← e, accepted-err c.take_refusal-refusal.result, ← c.is_err.ensures.value, c.if-is_err.true, c.no_sheets.ensures)

pub after-requires : goal.after-requires
after-requires c =
    let r = c.take_refusal-refusal.result in
    let none : r ≡ Ok tt = accepted-none r (accepted-err r ∙ rw (← c.is_err.ensures.value, c.if-is_err.false)) in
    c.take_refusal-refusal.ensures.1 (ap number_of none)

pub returns : goal.returns
unfolding taken_of take_ground settled_of quarter_in rewound
returns c =
    let e = rw c.samples_of-samples.ensures.0 at c.take_refusal-refusal.ensures.0 in
    rw (← e, accepted-err c.take_refusal-refusal.result, ← c.is_err.ensures.value, c.if-is_err.false, c.after.ensures, c.settled-settled.ensures)
