-- `bounds::bound::movable` meets its contract: the larger and the smaller.
-- Assumes nothing.
use Rattle.std.proofs.Common.{arith}
use mir.ValLaws.{to_z-of_z}
use Rattle.bounds.specs.Movable.{movable_of}
use Rattle.bounds.proofs.bound.movable.Goals as goal

pub returns : goal.returns
unfolding movable_of
returns c = grind (arith, to_z-of_z)
