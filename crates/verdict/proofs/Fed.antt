-- However an input is cut into blocks, the checker prints what the input means.
-- Assumes nothing.
use Prim.Native.Nat.{ℕ, ◌+◌, ◌^◌, ◌<◌}
use mathlib.Core.Path.{◌≡◌, refl, sym, ap, ◌∙◌}
use mathlib.Core.List.{List, [], ◌∷◌, ◌++◌}
use native.Mathlib.Omega.{arith}
use native.Mathlib.Decide.{dec_le}
use lib.ListN.{length}
use borrow.Author.Tests.{lt-ltb}
use Rattle.lines.specs.Lines.{lines_of, kept_of, each_line}
use Rattle.lines.specs.Handing.{Progress, after_bytes}
use Rattle.lines.proofs.Held.{kept_whole, kept-overlong}
use Rattle.lines.proofs.WholeInput.{kept-lines, lines-counted}
use Rattle.reading.specs.Share.{asked_of}
use Rattle.judging.specs.Kept.{Kept}
use Rattle.checking.specs.declared.checker.Stage.{Stage}
use Rattle.checking.specs.declared.checker.Stage.TheVariants.{Empty, Open, Ended, Stopped}
use Rattle.checking.specs.Checker.{Standing, standing, empty_checker, turn_at, line_turn, finish_text}
use Rattle.sharefeed.specs.Reader.{empty_reader, progress, handled, feed_of, printed_for}
use Rattle.verdict.specs.Checked.{checked}
use Rattle.verdict.proofs.Gaps.{Room}
use Rattle.verdict.proofs.Program.{checked-is}
use Rattle.reading.specs.declared.Line.TheVariants as L
use Rattle.reading.specs.declared.share.Asked.TheVariants as A

-- ---- what is kept of a line, 81 bytes of an overlong one, says what the line says

overlong : (line : List ℕ) → 80 < length line → asked_of line ≡ A.Settling L.Malformed
unfolding asked_of
overlong line h = rw (lt-ltb 80 (length line) h)

turn-kept : (stage : Stage) (s : Standing) (number : ℕ) (line : List ℕ) → 80 < length line → turn_at stage s number (kept_of line) ≡ turn_at stage s number line
turn-kept stage s number line h = go stage
  where
    long : 80 < length (kept_of line)
    long = omega (arith, kept-overlong line (omega arith))

    go : (stage : Stage) → turn_at stage s number (kept_of line) ≡ turn_at stage s number line
    go Empty = rw (overlong (kept_of line) long, overlong line h)
    go Open = rw (overlong (kept_of line) long, overlong line h)
    go (Ended n) = rw (overlong (kept_of line) long, overlong line h)
    go (Stopped fault) = refl

line_kept : (s : Standing) (number : ℕ) (line : List ℕ) → line_turn s number (kept_of line) ≡ line_turn s number line
unfolding line_turn
line_kept s number line =
    elim (dec_le (length line) 80) [
      | yes h ↦ ap (turn_at s.checker.stage s number) (kept_whole line (omega arith))
      | no h ↦ turn-kept s.checker.stage s number line (omega arith)
    ]

lines-kept : (lines : List (List ℕ)) (s : Standing) (n : ℕ) → each_line (λ t k line. line_turn t k (kept_of line)) s n lines ≡ each_line line_turn s n lines
unfolding each_line
lines-kept [] s n = refl
lines-kept (line ∷ lines) s n = rw (line_kept s (n + 1) line) (lines-kept lines (line_turn s (n + 1) line) (n + 1))

-- ---- byte by byte, and so block by block

-- where a reader stands after some blocks
unfoldable pub after_blocks : Progress Standing → List (List ℕ) → Progress Standing
after_blocks p [] = p
after_blocks p (block ∷ blocks) = after_blocks (feed_of p block) blocks

unfoldable pub joined : List (List ℕ) → List ℕ
joined [] = []
joined (block ∷ blocks) = block ++ joined blocks

bytes-join : (a b : List ℕ) (p : Progress Standing) → feed_of p (a ++ b) ≡ feed_of (feed_of p a) b
unfolding after_bytes
bytes-join [] b p = refl
bytes-join (byte ∷ a) b p = bytes-join a b _

blocks-join : (blocks : List (List ℕ)) (p : Progress Standing) → after_blocks p blocks ≡ feed_of p (joined blocks)
unfolding after_blocks joined after_bytes
blocks-join [] p = refl
blocks-join (block ∷ blocks) p = blocks-join blocks (feed_of p block) ∙ sym (bytes-join block (joined blocks) p)

printed-checked : (kept : Kept) (input : List ℕ) → Room kept → length (lines_of input) + 1 < 2 ^ 64 → printed_for kept input ≡ checked input
unfolding printed_for empty_reader
printed-checked kept input room h =
    rw (
      kept-lines line_turn input (standing empty_checker kept) (omega arith),
      lines-counted handled input (standing empty_checker kept) (omega arith),
      lines-kept (lines_of input) (standing empty_checker kept) 0,
    )
    (checked-is kept input room h)

-- what is printed at the input's end
abbrev pub end_text : Progress Standing → List ℕ
end_text p = finish_text p.state p.gatherer.count

-- IN ANY BLOCKS, WHAT IS PRINTED IS WHAT THE INPUT MEANS
pub fed-checked : (kept : Kept) (blocks : List (List ℕ)) → Room kept → length (lines_of (joined blocks)) + 1 < 2 ^ 64
    → end_text (after_blocks (progress empty_reader kept) blocks) ≡ checked (joined blocks)
unfolding printed_for
fed-checked kept blocks room h = ap end_text (blocks-join blocks (progress empty_reader kept)) ∙ printed-checked kept (joined blocks) room h
