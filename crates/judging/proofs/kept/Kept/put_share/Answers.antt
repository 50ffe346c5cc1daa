-- `judging::kept::Kept::put_share` meets its contract. Assumes nothing.
use Rattle.std.proofs.Common.{rules}
use Rattle.judging.specs.Kept.{with_share}
use Rattle.judging.proofs.kept.Kept.put_share.Goals as goal

pub returns-clause-is : goal.returns-clause-is
unfolding with_share
returns-clause-is c = search (rules, c.put_share.ensures)
