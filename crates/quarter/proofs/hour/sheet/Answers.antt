-- `quarter::hour::sheet` meets its contract.
-- Assumes nothing.
use mathlib.Core.Path.{◌≡◌}
use lib.ListN.{length, take}
use lib.Seq.{length-take-le}
use Rattle.quarter.specs.Quarter.{sheet_by}
use Rattle.quarter.proofs.hour.sheet.Goals as goal

pub returns : goal.returns
unfolding sheet_by
returns c =
    let h = c.held-count.ensures in
    let count = c.held-count.result in
    let contracts = c.args.book.contracts in
    let n : length (take count contracts) ≡ count = length-take-le count contracts h.fits in
    rw (c.pool.ensures, c.shared_out-lines.ensures, c.contracts.ensures, h.all, n)
