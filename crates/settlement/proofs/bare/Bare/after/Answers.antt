-- `settlement::bare::Bare::after` meets its contract.
-- Assumes nothing.
use Rattle.records.specs.Account.{with_lines, with_quarter}
use Rattle.settlement.proofs.bare.Bare.after.Goals as goal

pub returns : goal.returns
unfolding with_lines with_quarter
returns c = rw c.with_sheets-self.ensures
