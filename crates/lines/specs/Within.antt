-- A block of input for a desk of any kind that prints for most of its lines: byte by byte, until the room that is left may be too short for the text of one line
-- more, the desk is closed, or the block ends.
use Rattle.std.specs.Prelude.{ℕ, ◌+◌, ◌-◌, Bool, cond, ◌||◌, List, [], ◌∷◌, ◌++◌, length, ◌==◌, nat_lt}
use Rattle.lines.specs.Gathering.{fresh_of, longer_by, completed}
use Rattle.lines.specs.declared.Gatherer.{Gatherer}
use Rattle.lines.specs.Turns.{Turn}
use Rattle.lines.specs.Feed.{Outcome, stay, forth, line_at}

-- n bytes made a turn: what follows is printed after it
abbrev pub and_then : {D : Type 0} → List ℕ → ℕ → Outcome D → Outcome D
and_then text n o = record { gatherer = o.gatherer; desk = o.desk; used = n + o.used; text = text ++ o.text }

-- `most` is the longest text of a line
module _ {D : Type 0} (turn : D → ℕ → List ℕ → Turn D) (closed : D → Bool) (most : ℕ) where
  -- nothing is read where nothing may be printed any more
  abbrev pub rests : D → ℕ → Bool
  rests d room = closed d || nat_lt room most

  -- BYTE BY BYTE, with so much room: an LF (10) makes a turn of the line at hand
  unfoldable pub feed_within : ℕ → Gatherer → D → List ℕ → Outcome D
  feed_within room g d [] = stay g d
  feed_within room g d (byte ∷ bytes) =
      cond (rests d room) (stay g d)
      (cond (byte == 10)
      (and_then (line_at turn d (completed g)).text 1
      (feed_within (room - length (line_at turn d (completed g)).text) (fresh_of (completed g)) (line_at turn d (completed g)).desk bytes))
      (forth 1 (feed_within room (longer_by g byte) d bytes)))
