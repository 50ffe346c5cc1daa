-- `settlement::load::bound_in_range` meets its contract.
-- Assumes nothing.
use Rattle.std.proofs.Common.{rules, tests}
use Rattle.arithmetic.specs.Whole.{within_of}
use Rattle.channel.specs.Acceptable.{bound_in_range}
use Rattle.settlement.proofs.load.bound_in_range.Goals as goal

pub returns : goal.returns
unfolding bound_in_range within_of
returns c = search (rules, tests)
