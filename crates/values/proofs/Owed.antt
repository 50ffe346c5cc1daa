-- Under-delivery, shortfall and what is accepted of it make up the inner bound, of every sample and in either direction. That needs UGT⁺ ≤ UGA⁺, in N the
-- same of −OGT and −OGA, and UGT has it by its own definition, as the smaller of something and UGA: nothing is asked of the bounds.
-- Assumes nothing.
use mathlib.Core.Path.{◌≡◌, ap, ◌∙◌}
use Prim.Native.Nat.{ℕ, ◌+◌, ◌≤◌}
use native.Mathlib.Omega.{arith}
use lib.IntN.{ℤ, pos}
use Rattle.arithmetic.specs.Whole.{min_z, up, down, least_of, most_of}
use Rattle.arithmetic.proofs.Signed.{up_pos, down_pos}
use Rattle.vocabulary.specs.declared.direction.Direction.{Direction}
use Rattle.vocabulary.specs.declared.direction.Direction.TheVariants.{Positive, Negative}
use Rattle.values.specs.declared.part.Part.{Part}
use Rattle.values.specs.declared.value.Quantity.TheVariants.{Acceptance, Shortfall, UnderDelivery, Inner, Floor}
use Rattle.values.specs.Part.{part_of, amount_of, floor_of}
use Rattle.values.specs.Values.{plus, seen, sample_of}
use Rattle.values.specs.Owed.{Owed}
use Rattle.values.proofs.Words.{least-is}
use Rattle.values.proofs.Written.{written}

-- by magnitudes: the tolerance's inner bound is no more than the channel's
pub floor-inside : (p : Part) → amount_of Floor p ≤ amount_of Inner p
unfolding floor_of least_of
floor-inside p = omega arith

pub part-owed : (p : Part) → amount_of UnderDelivery p + amount_of Shortfall p + least_of (amount_of Acceptance p) (amount_of Inner p) ≡ amount_of Inner p
unfolding least_of most_of
part-owed p = omega (arith, floor-inside p)

smaller-is : (m n : ℕ) → min_z (pos m) (pos n) ≡ pos (least_of m n)
smaller-is m n = least-is (pos m) (pos n) (down_pos m) (down_pos n) ∙ rw (up_pos m, up_pos n)

-- THE FIRST FACT of request L9, for any setpoint, actual, OGA and UGA
pub sample-owed : (d : Direction) (s a oga uga : ℤ) → Owed (seen d (sample_of s a oga uga))
sample-owed d s a oga uga =
    record {
      whole =
          simp (written UnderDelivery d s a oga uga, written Shortfall d s a oga uga, written Acceptance d s a oga uga, written Inner d s a oga uga, smaller-is)
          (ap pos (part-owed (part_of d s a oga uga)));
    }

-- what is owed: UGA⁺, and seen from N OGA's magnitude where it is below 0
pub owed-positive : (s a oga uga : ℤ) → plus (seen Positive (sample_of s a oga uga)).uga ≡ pos (up uga)
owed-positive = written Inner Positive

pub owed-negative : (s a oga uga : ℤ) → plus (seen Negative (sample_of s a oga uga)).uga ≡ pos (down oga)
owed-negative = written Inner Negative
