-- `samples::half_at` meets its contract: four bytes, each below 256, make a number below 2 ^ 32. Assumes nothing.
use Rattle.std.proofs.Common.{sym}
use Rattle.samples.proofs.WordLaws.{four}
use Rattle.samples.proofs.half_at.Goals as goal

pub returns : goal.returns
returns c = record { is = sym (four _ _); bytes = λ i. (c.type_inv.lines i).fits }
