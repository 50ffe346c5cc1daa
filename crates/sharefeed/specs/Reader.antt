-- What a block makes of a reader of an input to the checker of shares (docs/RULES.md, 'Text', 'Checking shares').
use Rattle.std.specs.Prelude.{ℕ, ◌+◌, ◌≤◌, ◌<◌, ◌≡◌, cond, List, length, drop}
use Rattle.lines.specs.Gathering.{empty_gatherer}
use Rattle.lines.specs.Handing.{Progress, held_by, handed, after_bytes}
use Rattle.lines.specs.declared.Gatherer.{Gatherer}
use Rattle.lines.specs.declared.Gathered.{Gathered}
use Rattle.judging.specs.Kept.{Kept}
use Rattle.checking.specs.Checker.{Standing, standing, empty_checker, line_turn, finish_text}
use Rattle.sharefeed.specs.declared.Reader.{Reader}

-- before the input
unfoldable pub empty_reader : Reader
empty_reader = record { gatherer = empty_gatherer; checker = empty_checker }

-- where a reader stands, with what its checker keeps
abbrev pub progress : Reader → Kept → Progress Standing
progress reader kept = record { gatherer = reader.gatherer; state = standing reader.checker kept }

-- a complete line is handed to the checker
abbrev pub handled : Standing → Gatherer → Standing
handled s g = line_turn s g.count (held_by g)

-- A BLOCK, byte by byte
abbrev pub feed_of : Progress Standing → List ℕ → Progress Standing
feed_of p block = after_bytes handled p block

-- WHAT IS PRINTED for a whole input, by a reader whose lent lists held anything
unfoldable pub printed_for : Kept → List ℕ → List ℕ
printed_for kept input =
    finish_text (feed_of (progress empty_reader kept) input).state (feed_of (progress empty_reader kept) input).gatherer.count

-- ---- a part of a call, as the code has it

-- after some bytes: a complete line is handed out, or the line at hand is longer
abbrev pub after_part : Standing → Gathered → Progress Standing
after_part s part = cond part.complete (handed handled s part.gatherer) (record { gatherer = part.gatherer; state = s })

-- from place `at` on, some bytes were used
pub record Moves (p : Progress Standing) (block : List ℕ) (at used : ℕ) (p' : Progress Standing) : Type 0 where
  pub some : 0 < used
  pub within : at + used ≤ length block
  pub is : feed_of p (drop at block) ≡ feed_of p' (drop (at + used) block)
