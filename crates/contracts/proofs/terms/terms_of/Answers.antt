-- `contracts::terms::terms_of` meets its contract.
-- Assumes nothing.
use Rattle.std.proofs.Common.{rules}
use Rattle.contracts.specs.Terms.{terms_of}
use Rattle.contracts.proofs.terms.terms_of.Goals as goal

pub returns : goal.returns
unfolding terms_of
returns c = search rules
