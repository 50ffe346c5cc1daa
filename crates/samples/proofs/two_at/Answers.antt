-- `samples::two_at` meets its contract. Assumes nothing.
use Rattle.std.proofs.Common.{sym}
use Rattle.samples.proofs.WordLaws.{two}
use Rattle.samples.proofs.two_at.Goals as goal

pub returns : goal.returns
returns c = record { is = sym (two _ _); bytes = λ i. (c.type_inv.lines i).fits }
