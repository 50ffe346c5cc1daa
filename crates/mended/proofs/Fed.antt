-- THE PROGRAM: whoever feeds a recording to the reader, cut into blocks in any way, and then says that it ended, has printed what the recording means.
-- Assumes nothing.
use Prim.Native.Nat.{ℕ, ◌+◌, ◌%◌, ◌^◌, ◌<◌}
use mathlib.Core.Path.{◌≡◌, refl, ap, subst, sym, ◌∙◌}
use mathlib.Core.Bool.{true}
use mathlib.Core.List.{List, ◌++◌}
use native.Mathlib.Omega.{arith}
use native.Mathlib.Decide.{dec_le}
use native.Mathlib.Nat.{lt_of_not-le}
use borrow.Author.Tests.{lt-ltb}
use lib.ListN.{length}
use Rattle.arithmetic.proofs.Booleans.{true-false}
use Rattle.lines.specs.Lines.{lines_of, kept_of}
use Rattle.lines.specs.Feed.{Outcome}
use Rattle.lines.specs.Turns.{quiet}
use Rattle.lines.specs.declared.Gatherer.{Gatherer}
use Rattle.lines.proofs.Held.{kept_whole, kept-overlong}
use Rattle.lines.proofs.FeedMeaning.{Goes}
use Rattle.lines.proofs.WithinLaws.{goes-on-within}
use Rattle.lines.proofs.Fed.{fed-prints}
use Rattle.reading.specs.Entry.{entry_of}
use Rattle.reading.specs.declared.entry.Entry.TheVariants.{Malformed}
use Rattle.mending.specs.Mending.{mended}
use Rattle.mending.specs.Mender.{turn_at, line_turn, finish_at, finish_turn, line_room}
use Rattle.mendfeed.specs.Reader.{empty_reader, closed_of, finish_of}
use Rattle.mendfeed.specs.Feeding.{Called, Fed}
use Rattle.vocabulary.specs.Stage.{closed_at}
use Rattle.vocabulary.specs.declared.stage.Stage.{Stage}
use Rattle.vocabulary.specs.declared.stage.Stage.TheVariants.{Empty, Open, Closed}
use Rattle.mending.specs.declared.mender.Mender.{Mender}
use Rattle.mendfeed.specs.declared.Reader.{Reader}
use Rattle.mended.proofs.Means.{mender-means}

-- closed, it prints nothing and stays as it is
line-closed : (m : Mender) → closed_of m ≡ true → (n : ℕ) (line : List ℕ) → line_turn m n line ≡ quiet m
unfolding line_turn
line-closed m c n line = by-stage m.stage c
  where
    by-stage : (stage : Stage) → closed_at stage ≡ true → turn_at stage m n (entry_of line) ≡ quiet m
    by-stage Empty e = true-false e refl
    by-stage Open e = true-false e refl
    by-stage Closed e = refl

finish-closed : (m : Mender) → closed_of m ≡ true → (n : ℕ) → finish_turn m n ≡ quiet m
unfolding finish_turn
finish-closed m c n = by-stage m.stage c
  where
    by-stage : (stage : Stage) → closed_at stage ≡ true → finish_at stage m ((n + 1) % 2 ^ 64) ≡ quiet m
    by-stage Empty e = true-false e refl
    by-stage Open e = true-false e refl
    by-stage Closed e = refl

-- a line of more than 80 bytes is malformed, whatever its bytes; so what is kept of a line says the same as the line
overlong : (line : List ℕ) → 80 < length line → entry_of line ≡ Malformed
unfolding entry_of
overlong line h = rw (lt-ltb 80 (length line) h)

kept-turn : (m : Mender) (n : ℕ) (line : List ℕ) → line_turn m n (kept_of line) ≡ line_turn m n line
unfolding line_turn
kept-turn m n line =
    elim (dec_le (length line) 80) [
      | yes short ↦ ap (λ (l : List ℕ). turn_at m.stage m n (entry_of l)) (kept_whole line (omega arith))
      | no long ↦
          let l : 80 < length line = lt_of_not-le long in
          let k : length (kept_of line) ≡ 81 = kept-overlong line (omega arith) in
          ap (turn_at m.stage m n) (overlong (kept_of line) (omega arith) ∙ sym (overlong line l))
    ]

goes_on_lem : (g : Gatherer) (m : Mender) (block : List ℕ) (o : Outcome Mender) → Called g m block o → (so rest : List ℕ) → Goes line_turn closed_of g m so block rest o
goes_on_lem g m block o c so rest = subst (Goes line_turn closed_of g m so block rest) (sym c.is) (goes-on-within line_turn closed_of line_room block rest c.room g m so)

-- FED IN ANY PIECES, A RECORDING PRINTS WHAT IT MEANS (the one condition is that its lines can be counted)
pub fed-mended : (input text : List ℕ) (last : Reader) → length (lines_of input) + 1 < 2 ^ 64 → Fed empty_reader input text last → text ++ (finish_of last).text ≡ mended input
unfolding empty_reader
fed-mended input text last few fed =
    fed-prints line_turn finish_turn closed_of line-closed finish-closed kept-turn Called goes_on_lem (omega arith) fed ∙ mender-means input few
