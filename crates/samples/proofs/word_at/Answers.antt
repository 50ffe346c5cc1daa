-- `samples::word_at` meets its contract: four bytes, and four more above them. Assumes nothing.
use Rattle.std.proofs.Common.{◌+◌, sym, arith}
use Rattle.samples.proofs.WordLaws.{packed-low, eight}
use Rattle.samples.proofs.word_at.Goals as goal

pub overflow_mul-result : goal.overflow_mul-result
overflow_mul-result c =
    let high = c.half_at-2.ensures in
    omega (arith, high.is, packed-low c.args.lines.now high.bytes (c.args.at + 4))

pub overflow_add-result : goal.overflow_add-result
overflow_add-result c =
    let low = c.half_at.ensures in
    let high = c.half_at-2.ensures in
    let small = packed-low c.args.lines.now low.bytes in
    omega (arith, low.is, high.is, small c.args.at, small (c.args.at + 4))

pub returns : goal.returns
returns c =
    let low = c.half_at.ensures in
    record { is = rw (low.is, c.half_at-2.ensures.is) (sym (eight _ _)); bytes = low.bytes }
