-- `quarter::hour::quarter_hour` meets its contract. The claims leave room for their shares (Shared).
-- Assumes nothing.
use mathlib.Core.Path.{◌≡◌}
use lib.ListN.{length}
use Rattle.contracts.proofs.Looking.{unmapped, terms-listed}
use Rattle.claims.specs.Claims.{measured_of, measured_held}
use Rattle.quarter.specs.Quarter.{sheet_of, quarter_of, quarter_held}
use Rattle.quarter.proofs.Shared.{measured-sound}
use Rattle.quarter.proofs.hour.quarter_hour.Goals as goal

pub sheet-requires : goal.sheet-requires
sheet-requires c =
    let a = c.args in
    rw c.measure-measured.ensures (measured-sound a.channel a.setpoints a.actuals c.book-positive.result c.book-negative.result).0

pub sheet-requires-2 : goal.sheet-requires-2
sheet-requires-2 c =
    let a = c.args in
    rw c.measure-measured.ensures (measured-sound a.channel a.setpoints a.actuals c.book-positive.result c.book-negative.result).1

pub returns : goal.returns
unfolding quarter_held quarter_of sheet_of measured_held measured_of
returns c =
    let above = c.book-positive in
    let below = c.book-negative in
    let n : length above.result.contracts ≡ 32 = search (unmapped, above.type_inv) in
    let k : length below.result.contracts ≡ 32 = search (unmapped, below.type_inv) in
    rw (
      c.sheet-2.ensures,
      c.sheet.ensures,
      c.measure-measured.ensures,
      terms-listed above.result n,
      terms-listed below.result k,
      below.ensures,
      above.ensures,
    )
