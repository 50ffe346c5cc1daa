-- How lines are gathered from blocks (docs/RULES.md, 'Text'), as equations on the gatherer's state.
use Rattle.std.specs.Prelude.{◌≡◌, ℕ, ◌+◌, ◌%◌, ◌^◌, Bool, true, false, cond, List, [], ◌∷◌, length, replicate, ◌==◌, nat_lt, slice_set}
use Rattle.lines.specs.declared.Gatherer.{Gatherer}
use Rattle.lines.specs.declared.Gathered.{Gathered}

-- at the start of a line, after so many complete ones: no byte of it is at hand
abbrev pub start_at : ℕ → Gatherer
start_at count = record { bytes = replicate 81 0; length = 0; count = count }

-- before the input
unfoldable pub empty_gatherer : Gatherer
empty_gatherer = start_at 0

-- ready for the next line
unfoldable pub fresh_of : Gatherer → Gatherer
fresh_of g = start_at g.count

-- n complete lines further (a u64, which wraps)
unfoldable pub past_of : ℕ → Gatherer → Gatherer
past_of n g = start_at ((g.count + n) % 2 ^ 64)

-- nothing of a line is at hand; 81 bytes can be kept
pub record Starts (g : Gatherer) (r : Bool) : Type 0 where
  pub room : length g.bytes ≡ 81
  pub is : r ≡ (g.length == 0)

-- a byte of the line: kept if it is one of the first 81
unfoldable pub longer_by : Gatherer → ℕ → Gatherer
longer_by g byte =
    cond (nat_lt g.length 81) (record { bytes = slice_set g.bytes g.length byte; length = g.length + 1; count = g.count }) g

-- an LF: the line is complete, and counted (a u64, which wraps)
unfoldable pub completed : Gatherer → Gatherer
completed g = record { bytes = g.bytes; length = g.length; count = (g.count + 1) % 2 ^ 64 }

-- n bytes of the block were read before
abbrev pub further : ℕ → Gathered → Gathered
further n r = record { gatherer = r.gatherer; used = n + r.used; complete = r.complete }

-- read on to the first LF, or to the block's end
unfoldable pub gathered_of : Gatherer → List ℕ → Gathered
gathered_of g [] = record { gatherer = g; used = 0; complete = false }
gathered_of g (byte ∷ bytes) =
    cond (byte == 10) (record { gatherer = completed g; used = 1; complete = true })
    (further 1 (gathered_of (longer_by g byte) bytes))
