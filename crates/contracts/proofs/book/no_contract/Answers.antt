-- `contracts::book::no_contract` meets its contract.
-- Assumes nothing.
use mathlib.Core.Path.{refl}
use Rattle.contracts.specs.Book.{no_contract}
use Rattle.contracts.proofs.book.no_contract.Goals as goal

pub returns : goal.returns
unfolding no_contract
returns c = refl
