-- `samples::below_at` meets its contract, by the number of no sign after the minus. Assumes nothing.
use Rattle.std.proofs.Common.{refl, ◌∙◌, arith}
use Rattle.samples.proofs.Places.{next}
use Rattle.samples.proofs.PowerForm.{minus-none, minus-zero, minus-some, value-fits, less-fits, less-is, neg-suc, neg_of}
use Rattle.samples.proofs.below_at.Goals as goal

pub unsigned_at-requires : goal.unsigned_at-requires
unsigned_at-requires c = next c.requires.ended (λ e. omega (arith, c.requires.from_value))

pub returns-in_err-read : goal.returns-in_err-read
returns-in_err-read c = rw c.from_residual.ensures (minus-none c.requires.ended.within c.requires.from_value c.in_err-read.ensures)

pub returns-then-read-eq0 : goal.returns-then-read-eq0
returns-then-read-eq0 c = minus-zero c.requires.ended.within c.requires.from_value c.if-read-eq0.true c.in_ok-read.ensures

pub overflow_cast-result : goal.overflow_cast-result
overflow_cast-result c = value-fits (c.in_ok-read.ensures.sound _ refl).small

pub overflow_sub-result : goal.overflow_sub-result
overflow_sub-result c = less-fits (c.in_ok-read.ensures.sound _ refl).small

pub returns : goal.returns
returns c =
    let n = c.if-read-eq0.false in
    minus-some c.requires.ended.within c.requires.from_value _ (neg-suc _ n) (less-is (c.in_ok-read.ensures.sound _ refl).small ∙ neg_of _ n) c.in_ok-read.ensures
