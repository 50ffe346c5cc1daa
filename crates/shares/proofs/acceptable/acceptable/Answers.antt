-- `shares::acceptable::acceptable` meets its contract.
-- Assumes nothing.
use Rattle.std.proofs.Common.{arith, ◌≡◌}
use Rattle.shares.specs.Acceptable.{acceptable_of}
use Rattle.shares.specs.Shares.{handed_out}
use Rattle.arithmetic.specs.Whole.{least_of}
use Rattle.shares.proofs.acceptable.acceptable.Goals as goal

pub returns-then-all_fit : goal.returns-then-all_fit
unfolding acceptable_of handed_out least_of
returns-then-all_fit c =
    let same : c.min-handed.result ≡ least_of c.args.surplus.0 c.total-all.result = omega arith in
    rw (← c.total-all.ensures, ← same, ← c.sum.ensures, ← c.all_fit.ensures, c.if-all_fit.true)

pub returns-else-all_fit : goal.returns-else-all_fit
unfolding acceptable_of handed_out least_of
returns-else-all_fit c =
    let same : c.min-handed.result ≡ least_of c.args.surplus.0 c.total-all.result = omega arith in
    rw (← c.total-all.ensures, ← same, ← c.all_fit.ensures, c.if-all_fit.false)
