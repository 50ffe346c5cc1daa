-- `shares::parted` meets its contract. A share fits a Kwh, as what is handed out does.
-- Assumes nothing.
use Rattle.shares.proofs.Parting.{parts-fit}
use Rattle.shares.specs.Shares.{amount, amounts, parted_of}
use Rattle.series.proofs.Scanned.{each-length}
use lib.ListN.{length}
use native.Mathlib.Omega.{arith}
use mathlib.Core.Path.{◌≡◌}
use Rattle.shares.proofs.parted.Goals as goal

pub topped_up-requires : goal.topped_up-requires
topped_up-requires c =
    let a = c.args in
    let sized : length (amounts a.gaps) ≡ 32 = omega (arith, each-length amount a.gaps) in
    rw (
      c.marks-extras.ensures,
      c.missing.ensures,
      c.divided-parts.ensures.left,
      c.divided-parts.ensures.down,
    ) (parts-fit (amounts a.gaps) a.handed a.total sized c.requires)

pub returns : goal.returns
unfolding parted_of
returns c =
    let at-divided = c in
    rw (
      c.topped_up.ensures,
      c.marks-extras.ensures,
      c.missing.ensures,
      at-divided.divided-parts.ensures.left,
      at-divided.divided-parts.ensures.down,
    )
