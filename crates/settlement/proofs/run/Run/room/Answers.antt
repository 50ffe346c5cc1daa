-- `settlement::run::Run::room` meets its contract.
-- Assumes nothing.
use Rattle.settlement.proofs.run.Run.room.Goals as goal

pub returns : goal.returns
returns c =
    let run = c.args.self in
    rw c.bared.ensures at (c.room.ensures run.tape.setpoints run.tape.actuals)
