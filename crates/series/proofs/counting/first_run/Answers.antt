-- `series::counting::first_run` meets its contract.
-- Assumes nothing.
use Rattle.series.proofs.counting.first_run.Goals as goal

pub returns : goal.returns
returns c =
    let placed = c.descended-place.ensures in
    let run = c.stretch-run.ensures in
    record { within = placed.within; some = run.0; ran = rw (c.lower.ensures, c.upper.ensures) at run.1 }
