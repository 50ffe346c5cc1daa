-- The mirror of a start: every setpoint negated, the bounds exchanged and negated.
use Rattle.std.specs.Prelude.{List, [], ◌∷◌, ℤ, neg_ℤ}
use Rattle.channel.specs.Start.{Block, Start, fresh, carried}

-- setpoints with every sign changed
abbrev pub negated : List ℤ → List ℤ
negated [] = []
negated (s ∷ h) = neg_ℤ s ∷ negated h

abbrev pub mirrored_block : Block → Block
mirrored_block b = record { oga = neg_ℤ b.uga; uga = neg_ℤ b.oga; setpoints = negated b.setpoints }

abbrev pub mirrored_start : Start → Start
mirrored_start fresh = fresh
mirrored_start (carried b) = carried (mirrored_block b)
