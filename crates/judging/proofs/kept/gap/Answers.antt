-- `judging::kept::gap` meets its contract. Assumes nothing.
use Rattle.judging.specs.Kept.{cap_in, gap_in}
use Rattle.arithmetic.specs.Whole.{least_of}
use native.Mathlib.Omega.{arith}
use Rattle.judging.proofs.kept.gap.Goals as goal

pub returns : goal.returns
unfolding gap_in cap_in least_of
returns c = omega arith
