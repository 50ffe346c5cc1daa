-- `judging::wanted::wanted` meets its contract: 255 × 64 fits. Assumes nothing.
use Prim.Native.Nat.{◌+◌, ◌≤◌}
use native.Mathlib.Nat.{mul-le-mul}
use Rattle.judging.specs.Wanted.{wanted_in}
use native.Mathlib.Omega.{arith}
use Rattle.std.proofs.Common.{rules}
use Rattle.judging.proofs.wanted.wanted.Goals as goal

pub overflow_mul-result : goal.overflow_mul-result
overflow_mul-result c =
    let few : c.held-positives.result + c.held-negatives.result ≤ 64 = omega (arith, c.held-positives.ensures.few, c.held-negatives.ensures.few) in
    let day : c.from.result ≤ 255 = omega (arith, c.from.ensures, c.ranges.quarters) in
    omega (arith, mul-le-mul day few)

pub returns : goal.returns
unfolding wanted_in
returns c = rw (c.from.ensures, ← c.book.ensures, ← c.book-2.ensures, ← c.held-positives.ensures.is, ← c.held-negatives.ensures.is)
