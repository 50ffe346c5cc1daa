-- What is printed for a recording, read from its end.
-- Assumes nothing.
use Prim.Native.Nat.{ℕ, suc, ◌+◌}
use mathlib.Core.Path.{◌≡◌, refl, sym, ap, ap₂, subst, ◌∙◌}
use mathlib.Core.Bool.{Bool, true, false}
use mathlib.Core.List.{List, [], ◌∷◌, ◌++◌, append_assoc, append-nil}
use native.Mathlib.Omega.{arith}
use lib.ListN.{length}
use Rattle.arithmetic.proofs.Booleans.{true-false}
use Rattle.series.specs.Scan.{each}
use Rattle.series.proofs.Each.{each-end}
use Rattle.vocabulary.specs.Refusals.{Ruling, accepted}
use Rattle.vocabulary.proofs.GroundLaws.{first_holds, only-first}
use Rattle.std.specs.Prelude.{Err}
use Rattle.vocabulary.specs.declared.refusal.Refusal.TheVariants.{NoEnd}
use Rattle.vocabulary.specs.declared.header.Header.{Header}
use Rattle.vocabulary.specs.declared.recorded.Recorded.{Recorded}
use Rattle.lines.specs.Lines.{lines_of}
use Rattle.lines.specs.Walk.{walk}
use Rattle.reading.specs.Entry.{entry_of}
use Rattle.reading.specs.declared.entry.Entry.{Entry}
use Rattle.reading.specs.declared.entry.Entry.TheVariants as E
use Rattle.mending.specs.declared.grid.Grid.{Grid}
use Rattle.mending.specs.Mending.{SoFar, nothing, these, over, grid_of, grounds, ground, Item, refused, recorded_items, items, with, says, after, ends, recording}
use Rattle.mended.specs.Endings.{items_from, printed, Ending, whole, refused_at, short, at_end, ending, ending_of, Accepts, none, more}
use Rattle.mended.specs.Endings.{SaysSo, no_line_lem, header_and_rows, AcceptedRecording, RefusedRecording, ShortRecording, EndsSo}

-- ---- one line more

-- what a line says comes after what those before it said
pub items-end : (t : Grid) (before rows : List Recorded) (row : Recorded) → items_from t before (rows ++ (row ∷ [])) ≡ items_from t before rows ++ recorded_items t (before ++ rows) row
unfolding items_from
items-end t before [] row = rw (append-nil (recorded_items t before row), append-nil before)
items-end t before (other ∷ rows) row =
    rw (items-end t (before ++ (other ∷ [])) rows row, append_assoc before (other ∷ []) rows)
    (sym (append_assoc (recorded_items t before other) (items_from t (before ++ (other ∷ [])) rows) (recorded_items t (before ++ (other ∷ rows)) row)))

printed-with : (so : SoFar) (entry : Entry) → accepted (ground so entry) ≡ true → (entry ≡ E.End → ⊥) → printed (with so entry) ≡ printed so ++ items so entry
unfolding items_from grounds items with
printed-with nothing (E.Header h) a n = refl
printed-with nothing (E.Recorded row) a n = true-false a refl
printed-with nothing E.End a n = true-false a refl
printed-with nothing E.Malformed a n = true-false a refl
printed-with (these h rows) (E.Header k) a n = true-false a refl
printed-with (these h rows) (E.Recorded row) a n = items-end (grid_of h) [] rows row
printed-with (these h rows) E.End a n = absurd (n refl)
printed-with (these h rows) E.Malformed a n = true-false a refl
printed-with over entry a n = refl

-- after E, nothing is read
over-after : (so : SoFar) → accepted (ground so E.End) ≡ true → with so E.End ≡ over
unfolding grounds with
over-after nothing a = true-false a refl
over-after (these h rows) a = refl
over-after over a = refl

abbrev walked : SoFar → ℕ → List (List ℕ) → List Item
walked so n lines = walk says after ends so n lines

walk-over : (n : ℕ) (lines : List (List ℕ)) → walked over n lines ≡ []
unfolding walk says after ends grounds items with
walk-over n [] = refl
walk-over n (line ∷ lines) = walk-over (n + 1) lines

-- ---- the endings, by name, of the lines from number n on

data Ends (so₀ : SoFar) (n : ℕ) (lines : List (List ℕ)) : Ending → Type 0 where
  by_end : {so : SoFar} (before : List (List ℕ)) (line : List ℕ) (rest : List (List ℕ)) → lines ≡ before ++ (line ∷ rest) → Accepts so₀ before so → entry_of line ≡ E.End
      → accepted (ground so E.End) ≡ true → printed so₀ ++ walked so₀ n lines ≡ printed so ++ items so E.End → Ends so₀ n lines (whole so)
  by_refusal : {so : SoFar} (before : List (List ℕ)) (line : List ℕ) (rest : List (List ℕ)) → lines ≡ before ++ (line ∷ rest) → Accepts so₀ before so
      → accepted (ground so (entry_of line)) ≡ false → printed so₀ ++ walked so₀ n lines ≡ printed so ++ (refused (n + length before) (ground so (entry_of line)) ∷ [])
      → Ends so₀ n lines (refused_at so (n + length before) (ground so (entry_of line)))
  by_stop : {so : SoFar} → Accepts so₀ lines so → printed so₀ ++ walked so₀ n lines ≡ printed so ++ ends so (n + length lines) → Ends so₀ n lines (short so (n + length lines))

shifted : (n m : ℕ) → n + 1 + m ≡ n + suc m
shifted n m = omega arith

at_once : (n : ℕ) → n + 0 ≡ n
at_once n = omega arith

module _ (n : ℕ) (line : List ℕ) (lines : List (List ℕ)) (so : SoFar) where
  abbrev entry : Entry
  entry = entry_of line

  module _ (a : accepted (ground so entry) ≡ true) where
    -- an accepted line in front
    walk-on : walked so n (line ∷ lines) ≡ items so entry ++ walked (with so entry) (n + 1) lines
    unfolding walk says after
    walk-on = rw a

    module _ (u : entry ≡ E.End → ⊥) where
      printed-on : printed so ++ walked so n (line ∷ lines) ≡ printed (with so entry) ++ walked (with so entry) (n + 1) lines
      printed-on =
          ap (λ (l : List Item). printed so ++ l) walk-on
          ∙ sym (append_assoc (printed so) (items so entry) (walked (with so entry) (n + 1) lines))
          ∙ ap (λ (l : List Item). l ++ walked (with so entry) (n + 1) lines) (sym (printed-with so entry a u))

      in-front : {e : Ending} → Ends (with so entry) (n + 1) lines e → Ends so n (line ∷ lines) e
      in-front (by_end before it rest s c l g p) = by_end (line ∷ before) it rest (ap (λ (ls : List (List ℕ)). line ∷ ls) s) (more a u c) l g (printed-on ∙ p)
      in-front (by_refusal {so = to} before it rest s c g p) =
          let m = shifted n (length before) in
          rw m
          (by_refusal (line ∷ before) it rest (ap (λ (ls : List (List ℕ)). line ∷ ls) s) (more a u c) g (rw m at (printed-on ∙ p)))
      in-front (by_stop {so = to} c p) =
          let m = shifted n (length lines) in
          rw m (by_stop (more a u c) (rw m at (printed-on ∙ p)))

    -- an E
    at-the-end : entry ≡ E.End → Ends so n (line ∷ lines) (whole so)
    at-the-end e =
        let a' : accepted (ground so E.End) ≡ true = rw e at a in
        by_end [] line lines refl none e a'
        (ap (λ (l : List Item). printed so ++ l)
        (walk-on
        ∙ ap (λ (x : Entry). items so x ++ walked (with so x) (n + 1) lines) e
        ∙ ap (λ (s : SoFar). items so E.End ++ walked s (n + 1) lines) (over-after so a')
        ∙ ap (λ (l : List Item). items so E.End ++ l) (walk-over (n + 1) lines)
        ∙ append-nil (items so E.End)))

    ends-accepted : ((p : SoFar) → Ends p (n + 1) lines (ending p (n + 1) lines)) → (other : Entry) → other ≡ entry
        → Ends so n (line ∷ lines) (at_end other so (ending (with so entry) (n + 1) lines))
    ends-accepted follows (E.Header h) e = in-front (λ d. cc) (follows (with so entry))
    ends-accepted follows (E.Recorded row) e = in-front (λ d. cc) (follows (with so entry))
    ends-accepted follows E.End e = at-the-end (sym e)
    ends-accepted follows E.Malformed e = in-front (λ d. cc) (follows (with so entry))

  walk_refused : accepted (ground so entry) ≡ false → walked so n (line ∷ lines) ≡ refused n (ground so entry) ∷ []
  unfolding walk says after
  walk_refused f = rw (f, walk-over (n + 1) lines)

  ends-line : ((p : SoFar) → Ends p (n + 1) lines (ending p (n + 1) lines)) → (b : Bool) → accepted (ground so entry) ≡ b → Ends so n (line ∷ lines) (ending so n (line ∷ lines))
  unfolding ending
  ends-line follows true a = rw a (ends-accepted a follows entry refl)
  ends-line follows false f =
      let r = ground so entry in
      rw f
      (subst (λ (m : ℕ). Ends so n (line ∷ lines) (refused_at so m r)) (at_once n)
      (by_refusal [] line lines refl none f
      (ap (λ (l : List Item). printed so ++ l) (walk_refused f ∙ ap (λ (m : ℕ). refused m r ∷ []) (sym (at_once n))))))

ends-lines : (so : SoFar) (n : ℕ) (lines : List (List ℕ)) → Ends so n lines (ending so n lines)
unfolding ending walk
ends-lines so n [] =
    subst (λ (m : ℕ). Ends so n [] (short so m)) (at_once n) (by_stop none (ap (λ (m : ℕ). printed so ++ ends so m) (sym (at_once n))))
ends-lines so n (line ∷ lines) = ends-line n line lines so (λ p. ends-lines p (n + 1) lines) (accepted (ground so (entry_of line))) refl

-- ---- the lines that were accepted say what was given

-- after D, each is a G line
module _ (h : Header) (rows : List Recorded) (head : List ℕ) (done : List (List ℕ)) (line : List ℕ) (lines : List (List ℕ)) (so : SoFar) where
  says-step : (entry : Entry) → accepted (ground (these h rows) entry) ≡ true → (entry ≡ E.End → ⊥)
      → ((row : Recorded) → entry ≡ E.Recorded row → SaysSo (head ∷ ((done ++ (line ∷ [])) ++ lines)) so) → SaysSo (head ∷ (done ++ (line ∷ lines))) so
  unfolding grounds
  says-step (E.Header k) a n next = true-false a refl
  says-step (E.Recorded row) a n next = rw (append_assoc done (line ∷ []) lines) at (next row refl)
  says-step E.End a n next = absurd (n refl)
  says-step E.Malformed a n next = true-false a refl

says-rows : (h : Header) (rows : List Recorded) (head : List ℕ) (done lines : List (List ℕ)) (so : SoFar) → entry_of head ≡ E.Header h
    → each entry_of done ≡ each E.Recorded rows → Accepts (these h rows) lines so → SaysSo (head ∷ (done ++ lines)) so
unfolding with each
says-rows h rows head done [] so e d none = rw (append-nil done) (header_and_rows head done e d)
says-rows h rows head done (line ∷ lines) so e d (more a n r) =
    says-step h rows head done line lines so (entry_of line) a n
    (λ row f.
    says-rows h (rows ++ (row ∷ [])) head (done ++ (line ∷ [])) lines so e
    (each-end entry_of done line ∙ ap₂ (λ (es : List Entry) (x : Entry). es ++ (x ∷ [])) d f ∙ sym (each-end E.Recorded rows row))
    (rw f at r))

says_first : (line : List ℕ) (lines : List (List ℕ)) (so : SoFar) (entry : Entry) → entry_of line ≡ entry → accepted (ground nothing entry) ≡ true
    → Accepts (with nothing entry) lines so → SaysSo (line ∷ lines) so
unfolding grounds with each
says_first line lines so (E.Header h) e a r = says-rows h [] line [] lines so e refl r
says_first line lines so (E.Recorded row) e a r = true-false a refl
says_first line lines so E.End e a r = true-false a refl
says_first line lines so E.Malformed e a r = true-false a refl

-- D first, then G lines
pub accepted-say : (lines : List (List ℕ)) (so : SoFar) → Accepts nothing lines so → SaysSo lines so
accepted-say [] so none = no_line_lem
accepted-say (line ∷ lines) so (more a n r) = says_first line lines so (entry_of line) refl a r

-- ---- EVERY RECORDING ends in exactly one of the three ways: the one that `ending_of` names

from_start : (input : List ℕ) → recording input ≡ printed nothing ++ walked nothing 1 (lines_of input)
unfolding recording
from_start input = refl

-- only E and a refusal end it
never-over : {lines : List (List ℕ)} {so : SoFar} → SaysSo lines so → so ≡ over → ⊥
never-over no_line_lem e = cc
never-over (header_and_rows head lines s r) e = cc

accepted-so : (input : List ℕ) (so : SoFar) → Ends nothing 1 (lines_of input) (whole so) → EndsSo input (whole so)
unfolding grounds items
accepted-so input nothing (by_end before line rest s a e g p) = true-false g refl
accepted-so input (these h rows) (by_end before line rest s a e g p) =
    record { before = before; end = line; rest = rest; lines = s; accepts = a; says = accepted-say before (these h rows) a; said_end = e; accepted_end = g; items = from_start input ∙ p }
accepted-so input over (by_end before line rest s a e g p) = never-over (accepted-say before over a) refl

refused-so : (input : List ℕ) (so : SoFar) (n : ℕ) (refusal : Ruling) → Ends nothing 1 (lines_of input) (refused_at so n refusal) → RefusedRecording input so n refusal
refused-so input so n refusal (by_refusal before line rest s a f p) =
    record {
      before = before;
      line = line;
      rest = rest;
      lines = s;
      accepts = a;
      says = accepted-say before so a;
      number = omega arith;
      first = first_holds (grounds so (entry_of line));
      given = f;
      items = from_start input ∙ p;
    }

-- 15 where nothing ended it
stops : (so : SoFar) (n : ℕ) → (so ≡ over → ⊥) → ends so n ≡ refused n (Err NoEnd) ∷ []
unfolding ends
stops nothing n u = refl
stops (these h rows) n u = refl
stops over n u = absurd (u refl)

short-so : (input : List ℕ) (so : SoFar) (n : ℕ) → Ends nothing 1 (lines_of input) (short so n) → ShortRecording input so n
short-so input so n (by_stop a p) =
    let s = accepted-say (lines_of input) so a in
    record {
      accepts = a;
      says = s;
      number = omega arith;
      items = from_start input ∙ p ∙ ap (λ (l : List Item). printed so ++ l) (stops so (1 + length (lines_of input)) (never-over s));
    }

ends_so : (input : List ℕ) (e : Ending) → Ends nothing 1 (lines_of input) e → EndsSo input e
ends_so input (whole so) r = accepted-so input so r
ends_so input (refused_at so n refusal) r = refused-so input so n refusal r
ends_so input (short so n) r = short-so input so n r

pub recording-ends : (input : List ℕ) → EndsSo input (ending_of input)
unfolding ending_of
recording-ends input = ends_so input (ending nothing 1 (lines_of input)) (ends-lines nothing 1 (lines_of input))

-- ---- and in no other way

not-ended : (entry : Entry) (so : SoFar) (rest : Ending) → (entry ≡ E.End → ⊥) → at_end entry so rest ≡ rest
not-ended (E.Header h) so rest n = refl
not-ended (E.Recorded row) so rest n = refl
not-ended E.End so rest n = absurd (n refl)
not-ended E.Malformed so rest n = refl

-- an accepted line in front of others
onward : (so : SoFar) (n : ℕ) (line : List ℕ) (lines : List (List ℕ)) → accepted (ground so (entry_of line)) ≡ true → (entry_of line ≡ E.End → ⊥)
    → ending so n (line ∷ lines) ≡ ending (with so (entry_of line)) (n + 1) lines
unfolding ending
onward so n line lines a u = rw a (not-ended (entry_of line) so (ending (with so (entry_of line)) (n + 1) lines) u)

only-whole : {so to : SoFar} {before : List (List ℕ)} (n : ℕ) (end : List ℕ) (rest : List (List ℕ)) → Accepts so before to → entry_of end ≡ E.End
    → accepted (ground to E.End) ≡ true → ending so n (before ++ (end ∷ rest)) ≡ whole to
unfolding ending
only-whole n end rest none e a = rw (e, a)
only-whole n end rest (more {so} {line = line} {lines = lines} f u r) e a = onward so n line (lines ++ (end ∷ rest)) f u ∙ only-whole (n + 1) end rest r e a

only-refused : {so to : SoFar} {before : List (List ℕ)} (n : ℕ) (line : List ℕ) (rest : List (List ℕ)) → Accepts so before to → accepted (ground to (entry_of line)) ≡ false
    → ending so n (before ++ (line ∷ rest)) ≡ refused_at to (n + length before) (ground to (entry_of line))
unfolding ending
only-refused n line rest none a = rw (a, at_once n)
only-refused n line rest (more {so} {last = to} {line = other} {lines = lines} f u r) a =
    onward so n other (lines ++ (line ∷ rest)) f u ∙ only-refused (n + 1) line rest r a
    ∙ ap (λ (m : ℕ). refused_at to m (ground to (entry_of line))) (shifted n (length lines))

only-short : {so to : SoFar} {lines : List (List ℕ)} (n : ℕ) → Accepts so lines to → ending so n lines ≡ short to (n + length lines)
unfolding ending
only-short n none = rw (at_once n)
only-short n (more {so} {last = to} {line = line} {lines = lines} f u r) =
    onward so n line lines f u ∙ only-short (n + 1) r ∙ ap (λ (m : ℕ). short to m) (shifted n (length lines))

pub accepted-ends : {input : List ℕ} {h : Header} {rows : List Recorded} → AcceptedRecording input h rows → ending_of input ≡ whole (these h rows)
unfolding ending_of
accepted-ends a = ap (ending nothing 1) a.lines ∙ only-whole 1 a.end a.rest a.accepts a.said_end a.accepted_end

refused-ends : {input : List ℕ} {so : SoFar} {n : ℕ} {refusal : Ruling} → RefusedRecording input so n refusal → ending_of input ≡ refused_at so n refusal
unfolding ending_of
refused-ends {so = so} {n = n} r =
    let same = only-first r.first in
    let number : n ≡ 1 + length r.before = omega (arith, r.number) in
    ap (ending nothing 1) r.lines
    ∙ only-refused 1 r.line r.rest r.accepts (rw same at r.given)
    ∙ ap₂ (refused_at so) (sym number) (sym same)

short-ends : {input : List ℕ} {so : SoFar} {n : ℕ} → ShortRecording input so n → ending_of input ≡ short so n
unfolding ending_of
short-ends {input} {so} {n} r =
    let number : n ≡ 1 + length (lines_of input) = omega (arith, r.number) in
    only-short 1 r.accepts ∙ ap (short so) (sym number)

-- AN INPUT ENDS IN NO OTHER WAY
pub only_ending : (input : List ℕ) (e : Ending) → EndsSo input e → ending_of input ≡ e
only_ending input (whole nothing) r = absurd r
only_ending input (whole (these h rows)) r = accepted-ends r
only_ending input (whole over) r = absurd r
only_ending input (refused_at so n refusal) r = refused-ends r
only_ending input (short so n) r = short-ends r
