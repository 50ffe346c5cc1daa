-- `claims::energies::sliced` meets its contract. No slice is more than the whole, which fits.
-- Assumes nothing.
use Rattle.series.proofs.Sums.{sum-at}
use Rattle.series.specs.Sums.{sum_of}
use Rattle.std.proofs.Common.{mul-le-mul_left, mul-add, arith}
use Rattle.claims.proofs.energies.sliced.Goals as goal

pub energies-requires : goal.energies-requires
energies-requires c = λ k.
    let a = c.args in
    let split = mul-add a.seconds (sum_of a.pieces.sums) a.pieces.rest in
    omega (arith, mul-le-mul_left a.seconds (sum-at a.pieces.sums k), split, c.requires.held)
