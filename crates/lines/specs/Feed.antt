-- A block of input for a desk of any kind, byte by byte, until a line prints something, the desk is closed or the block ends.
use Rattle.std.specs.Prelude.{◌≡◌, ℕ, ◌+◌, Bool, true, false, cond, List, [], ◌∷◌, length, ◌==◌}
use Rattle.lines.specs.Gathering.{fresh_of, longer_by, completed}
use Rattle.lines.specs.Handing.{held_by}
use Rattle.lines.specs.declared.Gatherer.{Gatherer}
use Rattle.lines.specs.Turns.{Turn}

-- a line starts: nothing of it is at hand yet
pub record Start (g : Gatherer) : Type 0 where
  pub room : length g.bytes ≡ 81
  pub nothing : g.length ≡ 0

-- the line at hand and the desk, how many bytes of the block were used, and what is printed
pub record Outcome (D : Type 0) : Type 0 where
  pub gatherer : Gatherer
  pub desk : D
  pub used : ℕ
  pub text : List ℕ

abbrev pub stay : {D : Type 0} → Gatherer → D → Outcome D
stay g d = record { gatherer = g; desk = d; used = 0; text = [] }

-- n bytes were used before
abbrev pub forth : {D : Type 0} → ℕ → Outcome D → Outcome D
forth n o = record { gatherer = o.gatherer; desk = o.desk; used = n + o.used; text = o.text }

abbrev pub is_none : List ℕ → Bool
is_none [] = true
is_none (x ∷ xs) = false

-- n bytes made a turn: what it prints ends the call, else what follows goes on
abbrev pub on_turn : {D : Type 0} → Gatherer → Turn D → ℕ → Outcome D → Outcome D
on_turn g t n next = cond (is_none t.text) (forth n next) (record { gatherer = g; desk = t.desk; used = n; text = t.text })

-- a complete line, as it was gathered
abbrev pub line_at : {D : Type 0} → (D → ℕ → List ℕ → Turn D) → D → Gatherer → Turn D
line_at turn d g = turn d g.count (held_by g)

module _ {D : Type 0} (turn : D → ℕ → List ℕ → Turn D) (closed : D → Bool) where
  -- BYTE BY BYTE: an LF (10) makes a turn of the line at hand
  unfoldable pub feed_of : Gatherer → D → List ℕ → Outcome D
  feed_of g d [] = stay g d
  feed_of g d (byte ∷ bytes) =
      cond (closed d) (stay g d)
      (cond (byte == 10)
      (on_turn (fresh_of (completed g)) (line_at turn d (completed g)) 1 (feed_of (fresh_of (completed g)) (line_at turn d (completed g)).desk bytes))
      (forth 1 (feed_of (longer_by g byte) d bytes)))

  -- a turn after n bytes, and then the rest of the block
  abbrev pub onward : Gatherer → Turn D → ℕ → List ℕ → Outcome D
  onward g t n rest = on_turn g t n (feed_of g t.desk rest)
