-- A scan of a window: a setpoint as a number of 64 bits, where the scan begins, and one more sample; the windows lie within the ring.
-- Assumes nothing.
use mathlib.Core.Path.{◌≡◌}
use Prim.Native.Nat.{ℕ, suc, ◌+◌, ◌-◌, ◌≤◌, ◌<◌}
use native.Mathlib.Omega.{arith}
use lib.Dec.{lit<, lit≤}
use lib.IntN.{ℤ}
use mir.Syntax.{w32, w64}
use mir.Val.{to_z, of_z, SFits}
use mir.ValLaws.{to_z-of_z}
use Rattle.arithmetic.proofs.Signed.{wide}
use Rattle.vocabulary.specs.declared.interval.Interval.{Interval}
use Rattle.vocabulary.specs.declared.interval.Interval.TheVariants.{One, Three, Four}
use Rattle.vocabulary.specs.Interval.{windows_of}
use Rattle.bounds.specs.Windows.{over}

-- a number of 32 bits, read as one of 64
pub widened : {z : ℤ} → SFits w32 z → to_z w64 (of_z w64 (to_z w32 (of_z w32 z))) ≡ z
widened {z} f = rw (to_z-of_z w32 z f) (to_z-of_z w64 z (wide f))

pub wide_fits : {z : ℤ} → SFits w32 z → SFits w64 (to_z w32 (of_z w32 z))
wide_fits {z} f = rw (to_z-of_z w32 z f) (wide f)

module _ (op : ℤ → ℤ → ℤ) (f : ℕ → ℤ) (from : ℕ) where
  pub over-one : over op f from (from - from) ≡ f from
  unfolding over
  over-one = let e : from - from ≡ 0 = omega arith in rw e

  pub over-more : (k : ℕ) → from ≤ k → over op f from (k + 1 - from) ≡ op (over op f from (k - from)) (f (k + 1))
  unfolding over
  over-more k h =
      let e : k + 1 - from ≡ suc (k - from) = omega arith in
      let d : from + suc (k - from) ≡ k + 1 = omega arith in
      rw (e, d)

-- the windows lie within the ring, an interval has 4 seconds at most, and the spread window is the longer one
pub record Within (i : Interval) : Type 0 where
  pub near : (windows_of i).near < 302
  pub order : (windows_of i).from ≤ (windows_of i).to
  pub far : (windows_of i).to < 302
  pub short : (windows_of i).seconds ≤ 4
  pub longer : (windows_of i).from + (windows_of i).near ≤ (windows_of i).to

pub within : (i : Interval) → Within i
within One = record { near = lit< tt; order = lit≤ tt; far = lit< tt; short = lit≤ tt; longer = lit≤ tt }
within Three = record { near = lit< tt; order = lit≤ tt; far = lit< tt; short = lit≤ tt; longer = lit≤ tt }
within Four = record { near = lit< tt; order = lit≤ tt; far = lit< tt; short = lit≤ tt; longer = lit≤ tt }
