-- `mending::grid::place_of` meets its contract. Assumes nothing.
use Rattle.std.proofs.Common.{sym, div-one}
use Rattle.mending.proofs.grid.place_of.Goals as goal

pub returns-in-One : goal.returns-in-One
returns-in-One c = rw c.in-One.is (sym (div-one _))

pub returns-in-Three : goal.returns-in-Three
returns-in-Three c = rw c.in-Three.is

pub returns-in-Four : goal.returns-in-Four
returns-in-Four c = rw c.in-Four.is
