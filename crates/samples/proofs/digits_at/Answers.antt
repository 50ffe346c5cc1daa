-- `samples::digits_at` meets its contract. The loop's invariant: the digits from the start on are those from the k-th on after `value`.
-- Assumes nothing.
use Rattle.std.proofs.Common.{◌+◌, ◌<◌, get_or, arith}
use Rattle.samples.proofs.DigitScan.{wrapped-digit, wrapped-value, wrapped-other, below-million, one_more, stopped, all}
use Rattle.samples.proofs.digits_at.Goals as goal

pub returns-then-digit-gt9 : goal.returns-then-digit-gt9
returns-then-digit-gt9 c =
    let few : get_or c.args.bytes.now (c.args.from + c.loop-k.k) 0 < 256 = (c.type_inv.bytes (c.args.from + c.loop-k.k)).fits in
    stopped c.loop-k.invariant c.loop-k-test.true (wrapped-other few (rw c.from-digit.ensures at c.if-digit-gt9.true))

pub overflow_mul-value : goal.overflow_mul-value
overflow_mul-value c = let m = below-million _ _ c.loop-k.invariant.small c.loop-k-test.true in omega arith

pub overflow_add-value : goal.overflow_add-value
overflow_add-value c = let m = below-million _ _ c.loop-k.invariant.small c.loop-k-test.true in omega (arith, c.if-digit-gt9.false)

pub loop-k-preserved : goal.loop-k-preserved
loop-k-preserved c =
    let few : get_or c.args.bytes.now (c.args.from + c.loop-k.k) 0 < 256 = (c.type_inv.bytes (c.args.from + c.loop-k.k)).fits in
    let digit = rw c.from-digit.ensures at c.if-digit-gt9.false in
    rw c.from-digit.ensures (one_more c.loop-k.invariant c.loop-k-test.true (wrapped-digit few digit) (wrapped-value few digit) digit)

pub returns : goal.returns
returns c = all c.loop-k.invariant c.loop-k-test.false
