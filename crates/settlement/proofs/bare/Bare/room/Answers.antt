-- `settlement::bare::Bare::room` meets its contract.
-- Assumes nothing.
use Rattle.std.proofs.Common.{◌∙◌}
use Rattle.settlement.specs.Many.{room_of}
use Rattle.settlement.proofs.bare.Bare.room.Goals as goal

pub returns : goal.returns
unfolding room_of
returns c = λ sp ac. c.places.ensures ∙ rw c.samples_of.ensures.0
