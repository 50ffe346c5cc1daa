-- `judging::judged::shares_before` meets its contract: 255 × 64 fits, and so does what is added. Assumes nothing.
use Prim.Native.Nat.{◌+◌, ◌*◌, ◌≤◌}
use native.Mathlib.Omega.{arith}
use Rattle.std.proofs.Common.{rules}
use Rattle.judging.proofs.WantedLaws.{few-wanted}
use Rattle.judging.specs.Wanted.{wanted_in}
use Rattle.judging.proofs.judged.shares_before.Goals as goal

pub overflow_add-result : goal.overflow_add-result
overflow_add-result c = omega (arith, few-wanted c.args.books c.args.quarter (omega (arith, c.ranges.quarter)), c.wanted-from.ensures, c.held.ensures.few)

pub returns-in-Positive-clause-is : goal.returns-in-Positive-clause-is
unfolding wanted_in
returns-in-Positive-clause-is c = rw c.in-Positive.is c.wanted-from.ensures

pub returns-in-Positive-clause-few : goal.returns-in-Positive-clause-few
returns-in-Positive-clause-few c = omega (arith, few-wanted c.args.books c.args.quarter (omega (arith, c.ranges.quarter)), c.wanted-from.ensures)

pub returns-in-Negative-clause-is : goal.returns-in-Negative-clause-is
unfolding wanted_in
returns-in-Negative-clause-is c = rw (c.in-Negative.is, c.wanted-from.ensures, c.held.ensures.is, c.book.ensures)

pub returns-in-Negative-clause-few : goal.returns-in-Negative-clause-few
returns-in-Negative-clause-few c = omega (arith, few-wanted c.args.books c.args.quarter (omega (arith, c.ranges.quarter)), c.wanted-from.ensures, c.held.ensures.few)
