-- `calls::play` is safe and ends: each line ends after its beginning.
-- Assumes nothing.
use Rattle.std.proofs.Common.{arith}
use Rattle.calls.proofs.play.Goals as goal

pub overflow_add-from : goal.overflow_add-from
overflow_add-from g c = record { fits = omega (arith, c.line_end-to.ensures, c.well_formed) }
