-- `shares::shares` meets its contract.
-- Assumes nothing.
use Rattle.std.proofs.Common.{arith, ◌≡◌, length}
use Rattle.shares.proofs.Parting.{shares-none, shares-some}
use Rattle.shares.specs.Shares.{amount, amounts, handed_out}
use Rattle.series.proofs.Scanned.{each-length}
use Rattle.series.specs.Scan.{each}
use Rattle.arithmetic.specs.Whole.{least_of}
use Rattle.shares.proofs.shares.Goals as goal

pub returns-then-all-eq0 : goal.returns-then-all-eq0
unfolding each
returns-then-all-eq0 c =
    let sized : length (amounts c.args.gaps) ≡ 32 = omega (arith, each-length amount c.args.gaps) in
    rw (shares-none c.args.surplus.0 (amounts c.args.gaps) (omega (arith, c.total-all.ensures)), sized)

pub returns : goal.returns
unfolding handed_out least_of
returns c =
    let same : c.min.result ≡ handed_out c.args.surplus.0 (amounts c.args.gaps) = omega arith in
    rw (c.parted.ensures, same, c.total-all.ensures, shares-some c.args.surplus.0 (amounts c.args.gaps) (omega (arith, c.total-all.ensures)))
