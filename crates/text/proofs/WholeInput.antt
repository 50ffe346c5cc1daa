-- THE PROMISE OF THIS CRATE, over whole inputs: what the desk prints for an input's lines and its end is `settle` of the input.
use Rattle.std.proofs.Common.{◌≡◌, ℕ, ◌^◌, ◌<◌, List, length, refl, ap, ◌∙◌, lt_of_not-le, arith, lt-ltb}
use native.Mathlib.Decide.{dec_le}
use Rattle.lines.specs.Lines.{lines_of, kept_of}
use Rattle.lines.specs.Handing.{Progress, at_start, after_bytes}
use Rattle.lines.specs.Turns.{quiet}
use Rattle.lines.specs.declared.Gatherer.{Gatherer}
use Rattle.lines.proofs.Held.{Holds, kept_whole, kept-overlong}
use Rattle.lines.proofs.WholeInput.{whole-input, lines-counted}
use Rattle.lines.proofs.FeedMeaning.{handle_by}
use Rattle.reading.specs.Line.{line_of}
use Rattle.reading.specs.declared.Line.TheVariants.{Malformed}
use Rattle.text.specs.Desk.{Turn, empty_desk, turn_at, next_turn, line_turn}
use Rattle.text.specs.Settle.{and_then, with_line, with_end, after_lines, settle}
use Rattle.vocabulary.specs.declared.stage.Stage.{Stage}
use Rattle.vocabulary.specs.declared.stage.Stage.TheVariants.{Empty, Open, Closed}
use Rattle.text.specs.declared.desk.Desk.{Desk}

-- a line of more than 80 bytes is malformed, whatever its bytes
overlong : (line : List ℕ) → 80 < length line → line_of line ≡ Malformed
unfolding line_of
overlong line h = rw (lt-ltb 80 (length line) h)

-- so two overlong lines are as good as each other
same_turn : (stage : Stage) (desk : Desk) (number : ℕ) (a b : List ℕ) → line_of a ≡ Malformed → line_of b ≡ Malformed → turn_at stage desk number a ≡ turn_at stage desk number b
unfolding next_turn
same_turn Empty desk number a b p q = rw (p, q)
same_turn Open desk number a b p q = rw (p, q)
same_turn Closed desk number a b p q = refl

-- what is kept of a line says the same as the line
pub kept-turn : (desk : Desk) (number : ℕ) (line : List ℕ) → line_turn desk number (kept_of line) ≡ line_turn desk number line
unfolding line_turn
kept-turn desk number line =
    elim (dec_le (length line) 80) [
      | yes short ↦ ap (turn_at desk.stage desk number) (kept_whole line (omega arith))
      | no long ↦
          let l : 80 < length line = lt_of_not-le long in
          let k : length (kept_of line) ≡ 81 = kept-overlong line (omega arith) in
          same_turn desk.stage desk number (kept_of line) line (overlong (kept_of line) (omega arith)) (overlong line l)
    ]

-- LINE BY LINE: whoever reads an input byte by byte, hands each complete line to the desk and then says that the input ended, has printed `settle` of it
step : (so : Turn) (g : Gatherer) (line : List ℕ) → Holds g line → handle_by line_turn so g ≡ with_line so g.count line
unfolding with_line and_then
step so g line h = ap (λ (l : List ℕ). and_then so.text (line_turn so.desk g.count l)) h.held ∙ ap (and_then so.text) (kept-turn so.desk g.count line)

module _ (input : List ℕ) (few : length (lines_of input) < 2 ^ 64) where
  -- where the reading of the input ends
  abbrev pub end : Progress Turn
  end = after_bytes (handle_by line_turn) (at_start (quiet empty_desk)) input

  pub settles : (with_end end.state end.gatherer.count).text ≡ settle input
  unfolding settle after_lines
  settles =
      ap (λ (n : ℕ). (with_end end.state n).text) (lines-counted (handle_by line_turn) input (quiet empty_desk) few)
      ∙ ap (λ (t : Turn). (with_end t (length (lines_of input))).text) (whole-input (handle_by line_turn) with_line step input (quiet empty_desk) few)
