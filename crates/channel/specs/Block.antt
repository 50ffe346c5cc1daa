-- The block that a run hands on (docs/RULES.md, 'Bounds'): OGA and UGA after its last sample, and as many setpoints as the windows reach back, oldest first.
use Rattle.std.specs.Prelude.{ℕ, zero, suc, List, [], ◌∷◌, ℤ}
use Rattle.vocabulary.specs.declared.interval.Interval.{Interval}
use Rattle.vocabulary.specs.Interval.{windows_of}
use Rattle.channel.specs.Start.{Block, Start}
use Rattle.channel.specs.Bounds.{Past, soll, oga_at, uga_at}
use Rattle.channel.specs.Backward.{past_from, oga_of, uga_of}

-- n setpoints of a past, oldest first: n - 1 samples back, .., 1, 0
unfoldable pub back_to : (ℕ → ℤ) → ℕ → List ℤ
back_to f zero = []
back_to f (suc n) = f n ∷ back_to f n

-- the block at sample t: 301, 100 or 75 setpoints, by the interval
unfoldable pub block_at : Past → ℕ → Block
block_at p t = record { oga = oga_at p t; uga = uga_at p t; setpoints = back_to (soll p t) (windows_of p.interval).to }

-- the same told backward, after a start and a series
unfoldable pub block_of : Interval → ℕ → Start → List ℤ → Block
block_of i lot start h = record { oga = oga_of i lot start h; uga = uga_of i lot start h; setpoints = back_to (past_from start h) (windows_of i).to }
