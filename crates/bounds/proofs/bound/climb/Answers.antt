-- `bounds::bound::climb` meets its contract: the difference of two numbers of 32 bits fits 64, and so does the gradient.
-- Assumes nothing.
use native.Mathlib.Omega.{arith}
use mathlib.Core.Path.{◌≡◌, ◌∙◌}
use Prim.Native.Nat.{◌*◌, ◌≤◌}
use lib.IntN.{pos, ◌-ℤ◌, ◌*ℤ◌}
use mir.Syntax.{w32, w64}
use mir.Val.{SFits, to_z, of_z}
use mir.ValLaws.{to_z-of_z}
use Rattle.arithmetic.specs.Whole.{max_z}
use Rattle.arithmetic.proofs.Signed.{back}
use Rattle.bounds.proofs.Scan.{within}
use Rattle.bounds.proofs.Range.{spread-within, spread-fits, gradient-fits, gradient-down, gradient-up}
use Rattle.bounds.proofs.bound.climb.Goals.{After-from-4}
use Rattle.bounds.proofs.bound.climb.Goals as goal

-- the interval has few seconds
short : (c : After-from-4) → c.windows.result.seconds ≤ 4
short c = rw c.windows.ensures (within c.args.interval).short

-- the steepest of lot and spread
steepest : (c : After-from-4) → c.larger-steepest.result ≡ max_z (pos c.args.lot) (c.args.most -ℤ c.args.least)
steepest c =
    let a = c.args in
    c.larger-steepest.ensures
    ∙ rw (
      back {z = c.from.result} c.from.type_inv,
      back {z = c.from-2.result} c.from-2.type_inv,
      back {z = c.from-3.result} c.from-3.type_inv,
      c.from.ensures,
      c.from-2.ensures,
      c.from-3.ensures,
      to_z-of_z w32 a.most c.ranges.most,
      to_z-of_z w32 a.least c.ranges.least,
      to_z-of_z w64 (a.most -ℤ a.least) (spread-fits c.ranges.most c.ranges.least),
    )

-- the product's factors, as the machine has them and as they are
factors : (c : After-from-4) → to_z w64 (of_z w64 c.larger-steepest.result) *ℤ to_z w64 (of_z w64 c.from-4.result)
    ≡ max_z (pos c.args.lot) (c.args.most -ℤ c.args.least) *ℤ pos (20 * c.windows.result.seconds)
factors c = rw (back {z = c.larger-steepest.result} c.larger-steepest.type_inv, back {z = c.from-4.result} c.from-4.type_inv, steepest c, c.from-4.ensures)

fit : (c : After-from-4) → SFits w64 (max_z (pos c.args.lot) (c.args.most -ℤ c.args.least) *ℤ pos (20 * c.windows.result.seconds))
fit c =
    gradient-fits c.args.lot c.windows.result.seconds (c.args.most -ℤ c.args.least) (omega arith) (short c) (spread-within c.ranges.most c.ranges.least).0

pub overflow_mul-result : goal.overflow_mul-result
overflow_mul-result c = rw (factors c) (fit c)

pub returns : goal.returns
returns c =
    let a = c.args in
    let n = c.windows.result.seconds in
    let s = a.most -ℤ a.least in
    let w = (spread-within c.ranges.most c.ranges.least).0 in
    rw (factors c, to_z-of_z w64 (max_z (pos a.lot) s *ℤ pos (20 * n)) (fit c))
    (rw c.windows.ensures, (gradient-down a.lot n s, gradient-up a.lot n s (omega arith) (short c) w))
