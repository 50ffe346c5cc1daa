-- What is printed for the lines of an input by a desk of any kind; and what it is to feed it the input, cut into blocks in any way.
use Rattle.std.specs.Prelude.{◌≡◌, ℕ, Bool, true, List, [], ◌++◌, length, drop}
use Rattle.lines.specs.Lines.{each_line}
use Rattle.lines.specs.declared.Gatherer.{Gatherer}
use Rattle.lines.specs.Turns.{Turn, quiet}
use Rattle.lines.specs.Feed.{Outcome}

-- `turn` is what a line makes of the desk, `finish` what the input's end does after so many complete lines
module _ {D : Type 0} (turn : D → ℕ → List ℕ → Turn D) (finish : D → ℕ → Turn D) where
  -- one complete line more, with its number: its text comes after what was printed before
  abbrev pub with_line : Turn D → ℕ → List ℕ → Turn D
  with_line so n line = record { desk = (turn so.desk n line).desk; text = so.text ++ (turn so.desk n line).text }

  -- the input's end
  abbrev pub with_end : Turn D → ℕ → List ℕ
  with_end so count = so.text ++ (finish so.desk count).text

  -- ALL THAT IS PRINTED for some lines: line by line, counted from 1, and then the end
  unfoldable pub printed_for : D → List (List ℕ) → List ℕ
  printed_for d lines = with_end (each_line with_line (quiet d) 0 lines) (length lines)

-- Feeding some bytes prints a text. `called` says how a call comes out for the bytes that it is handed; each is handed as many of those that are left as one
-- likes, and what it did not use is left, before the others. It ends where no byte is left, or where the desk is closed.
module _ {D : Type 0} (closed : D → Bool) (called : Gatherer → D → List ℕ → Outcome D → Type 0) where
  pub data Feeds : Gatherer → D → List ℕ → List ℕ → Gatherer → D → Type 0 where
    used_up : {g : Gatherer} {d : D} → Feeds g d [] [] g d
    shut : {g : Gatherer} {d : D} {left : List ℕ} → closed d ≡ true → Feeds g d left [] g d
    call : {g g' : Gatherer} {d d' : D} {text : List ℕ} (block others : List ℕ) (o : Outcome D) → called g d block o
        → Feeds o.gatherer o.desk (drop o.used block ++ others) text g' d' → Feeds g d (block ++ others) (o.text ++ text) g' d'
