-- `settlement::run::Run::lacks` meets its contract. Assumes nothing.
use Rattle.std.proofs.Common.{rules}
use Rattle.settlement.specs.Run.{lacks_setpoints}
use Rattle.settlement.proofs.run.Run.lacks.Goals as goal

pub returns : goal.returns
unfolding lacks_setpoints
returns c = search rules
