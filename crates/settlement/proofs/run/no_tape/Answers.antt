-- `settlement::run::no_tape` meets its contract.
-- Assumes nothing.
use Rattle.records.specs.Tape.{no_tape}
use mathlib.Core.Path.{refl}
use Rattle.settlement.proofs.run.no_tape.Goals as goal

pub returns : goal.returns
unfolding no_tape
returns c = refl
