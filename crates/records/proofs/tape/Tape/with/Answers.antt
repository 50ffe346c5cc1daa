-- `records::tape::Tape::with` meets its contract.
-- Assumes nothing.
use Rattle.std.proofs.Common.{rules}
use Rattle.records.specs.Tape.{longer}
use Rattle.records.proofs.tape.Tape.with.Goals as goal

pub returns : goal.returns
unfolding longer
returns c = search rules
