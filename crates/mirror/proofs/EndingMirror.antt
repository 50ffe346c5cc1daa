-- THE MIRROR OF AN INPUT ENDS AS THE INPUT DOES: accepted, refused at the same line with the same number, or short after as many lines.
-- Assumes nothing.
use Prim.Native.Nat.{ℕ, suc, ◌+◌}
use mathlib.Core.Path.{◌≡◌, refl, sym, ap, subst, ◌∙◌}
use mathlib.Core.Bool.{true}
use mathlib.Core.List.{List, [], ◌∷◌, ◌++◌, append-nil}
use native.Mathlib.Omega.{arith}
use native.Mathlib.Nat.{add-zero}
use lib.ListN.{length}
use Rattle.vocabulary.specs.Refusals.{Ruling, accepted}
use Rattle.vocabulary.specs.declared.contract.Contract.{Contract}
use Rattle.vocabulary.proofs.GroundLaws.{only-first}
use Rattle.series.specs.Scan.{each}
use Rattle.series.proofs.Each.{each-join}
use Rattle.series.proofs.Scanned.{each-length}
use Rattle.lines.specs.Lines.{lines_of}
use Rattle.reading.specs.Line.{line_of, identifier_of}
use Rattle.reading.specs.declared.Line.{Line}
use Rattle.reading.specs.declared.Line.TheVariants as L
use Rattle.meaning.specs.Meaning.{SoFar, nothing, these, grounds, ground, after}
use Rattle.meaning.specs.Endings.{Ending, refused_at, short, ending, ending_of, Accepts, none, more, Ends, by_end, by_refusal, by_stop, RefusedInput, ShortInput}
use Rattle.meaning.specs.Mirror.{mirror_so, mirror_line, mirror_ending}
use Rattle.meaning.proofs.Endings.{ends}
use Rattle.meaning.proofs.Mirror.{ground-mirrored, after-mirrored}
use Rattle.join.proofs.SaidAccepted.{not-at-end}
use Rattle.mirror.specs.Bytes.{mirror_bytes, mirror_input}
use Rattle.mirror.proofs.LineMirror.{line-mirrored, line-twice, identifier-mirrored}
use Rattle.mirror.proofs.InputMirror.{lines-mirrored}

-- ---- the identifier is looked at on a contract alone

module _ (i j : List ℕ) where
  abbrev SameBy : SoFar → Line → Type 0
  SameBy so l = (ground so i l ≡ ground so j l) × (after so i l ≡ after so j l)

  same_by : (so : SoFar) (l : Line) → ((c : Contract) → l ≡ L.Contract c → i ≡ j) → SameBy so l
  unfolding grounds after
  same_by nothing (L.Header h) e = (refl, refl)
  same_by nothing (L.Bounds b) e = (refl, refl)
  same_by nothing (L.Setpoint s) e = (refl, refl)
  same_by nothing (L.Contract c) e = (refl, refl)
  same_by nothing (L.Sample x) e = (refl, refl)
  same_by nothing L.End e = (refl, refl)
  same_by nothing L.Malformed e = (refl, refl)
  same_by (these g) (L.Header h) e = (refl, refl)
  same_by (these g) (L.Bounds b) e = (refl, refl)
  same_by (these g) (L.Setpoint s) e = (refl, refl)
  same_by (these g) (L.Contract c) e =
      (ap (λ (k : List ℕ). ground (these g) k (L.Contract c)) (e c refl), ap (λ (k : List ℕ). after (these g) k (L.Contract c)) (e c refl))
  same_by (these g) (L.Sample x) e = (refl, refl)
  same_by (these g) L.End e = (refl, refl)
  same_by (these g) L.Malformed e = (refl, refl)

-- ---- one line: the same ground, and after it the mirror of what was given

module _ (line : List ℕ) where
  identifier-same : (c : Contract) → line_of (mirror_bytes line) ≡ L.Contract c → identifier_of (mirror_bytes line) ≡ identifier_of line
  identifier-same c e = sym (identifier-mirrored (mirror_bytes line) c e) ∙ ap identifier_of (line-twice line)

  same : (so : SoFar) → SameBy (identifier_of (mirror_bytes line)) (identifier_of line) so (line_of (mirror_bytes line))
  same so = same_by (identifier_of (mirror_bytes line)) (identifier_of line) so (line_of (mirror_bytes line)) identifier-same

  module _ (so : SoFar) where
    line-ground : ground (mirror_so so) (identifier_of (mirror_bytes line)) (line_of (mirror_bytes line)) ≡ ground so (identifier_of line) (line_of line)
    line-ground = (same (mirror_so so)).0 ∙ ap (ground (mirror_so so) (identifier_of line)) (line-mirrored line) ∙ ground-mirrored so (identifier_of line) (line_of line)

    line_after : after (mirror_so so) (identifier_of (mirror_bytes line)) (line_of (mirror_bytes line)) ≡ mirror_so (after so (identifier_of line) (line_of line))
    line_after = (same (mirror_so so)).1 ∙ ap (after (mirror_so so) (identifier_of line)) (line-mirrored line) ∙ after-mirrored so (identifier_of line) (line_of line)

  -- the mirror of a line is E where the line is
  end_back : line_of (mirror_bytes line) ≡ L.End → line_of line ≡ L.End
  end_back e = ap line_of (sym (line-twice line)) ∙ line-mirrored (mirror_bytes line) ∙ ap mirror_line e

-- ---- lines

accepts-mirrored : {so last : SoFar} {lines : List (List ℕ)} → Accepts so lines last → Accepts (mirror_so so) (each mirror_bytes lines) (mirror_so last)
unfolding each
accepts-mirrored none = none
accepts-mirrored (more {so} {last} {line} {lines} e n r) =
    more (ap accepted (line-ground line so) ∙ e) (λ f. n (end_back line f))
    (subst (λ (s : SoFar). Accepts s (each mirror_bytes lines) (mirror_so last)) (sym (line_after line so)) (accepts-mirrored r))

parts-mirrored : {lines : List (List ℕ)} (before : List (List ℕ)) (line : List ℕ) (rest : List (List ℕ)) → lines ≡ before ++ (line ∷ rest)
    → each mirror_bytes lines ≡ each mirror_bytes before ++ (mirror_bytes line ∷ each mirror_bytes rest)
unfolding each
parts-mirrored before line rest e = ap (each mirror_bytes) e ∙ each-join mirror_bytes before (line ∷ rest)

ends-mirrored : {first : SoFar} {n : ℕ} {lines : List (List ℕ)} {e : Ending} → Ends first n lines e → Ends (mirror_so first) n (each mirror_bytes lines) (mirror_ending e)
ends-mirrored (by_end {so} before line rest s a l e) =
    let said : line_of (mirror_bytes line) ≡ L.End = line-mirrored line ∙ ap mirror_line l in
    let good : accepted (ground so (identifier_of line) (line_of line)) ≡ true = rw l e in
    by_end (each mirror_bytes before) (mirror_bytes line) (each mirror_bytes rest) (parts-mirrored before line rest s) (accepts-mirrored a) said
    (rw said at (ap accepted (line-ground line so) ∙ good))
ends-mirrored {first} {n} {lines} (by_refusal {so} before line rest s a e) =
    rw (← each-length mirror_bytes before, ← line-ground line so)
    (by_refusal (each mirror_bytes before) (mirror_bytes line) (each mirror_bytes rest) (parts-mirrored before line rest s) (accepts-mirrored a) (ap accepted (line-ground line so) ∙ e))
ends-mirrored {lines = lines} (by_stop a) = rw (← each-length mirror_bytes lines) (by_stop (accepts-mirrored a))

-- ---- no second ending fits

-- lines that are accepted, and then others
ending-on : {so last : SoFar} {before : List (List ℕ)} → Accepts so before last → (n : ℕ) (rest : List (List ℕ)) → ending so n (before ++ rest) ≡ ending last (n + length before) rest
unfolding ending
ending-on {last = last} none n rest = ap (λ (m : ℕ). ending last m rest) (sym (add-zero n))
ending-on (more {so} {last} {line} {lines} f u r) n rest =
    let place : n + 1 + length lines ≡ n + suc (length lines) = omega arith in
    rw (f, not-at-end (line_of line) so (ending (after so (identifier_of line) (line_of line)) (n + 1) (lines ++ rest)) u)
    (ending-on r (n + 1) rest ∙ ap (λ (m : ℕ). ending last m rest) place)

ended_so : {first : SoFar} {n : ℕ} {lines : List (List ℕ)} {e : Ending} → Ends first n lines e → ending first (n + 1) lines ≡ e
unfolding ending
ended_so {first} {n} (by_end {so} before line rest s a l e) = ap (ending first (n + 1)) s ∙ ending-on a (n + 1) (line ∷ rest) ∙ rw (l, e)
ended_so {first} {n} (by_refusal {so} before line rest s a e) =
    let place : n + 1 + length before ≡ n + length before + 1 = omega arith in
    ap (ending first (n + 1)) s ∙ ending-on a (n + 1) (line ∷ rest) ∙ rw (e, place)
ended_so {first} {n} {lines} (by_stop {so} a) =
    let place : n + 1 + length lines ≡ n + length lines + 1 = omega arith in
    ap (ending first (n + 1)) (sym (append-nil lines)) ∙ ending-on a (n + 1) [] ∙ ap (short so) place

-- THE MIRROR OF EVERY INPUT
pub ending-mirrored : (input : List ℕ) → ending_of (mirror_input input) ≡ mirror_ending (ending_of input)
unfolding ending_of
ending-mirrored input = ended_so (rw (← lines-mirrored input) at (ends-mirrored (ends input)))

-- ---- an input that is refused or stops short ends so

pub refused-ends : {input : List ℕ} {so : SoFar} {n : ℕ} {refusal : Ruling} → RefusedInput input so n refusal → ending_of input ≡ refused_at so n refusal
unfolding ending_of
refused-ends {input} {so} {n} {refusal} r =
    let is : refusal ≡ ground so (identifier_of r.line) (line_of r.line) = only-first r.first in
    let place : n ≡ 0 + length r.before + 1 = omega (arith, r.number) in
    let e : Ends nothing 0 (lines_of input) (refused_at so (0 + length r.before + 1) (ground so (identifier_of r.line) (line_of r.line))) =
    by_refusal r.before r.line r.rest r.lines r.accepts (ap accepted (sym is) ∙ r.refused) in
    rw (is, place) (ended_so e)

pub short-ends : {input : List ℕ} {so : SoFar} {n : ℕ} → ShortInput input so n → ending_of input ≡ short so n
unfolding ending_of
short-ends {input} {so} {n} s =
    let place : n ≡ 0 + length (lines_of input) + 1 = omega (arith, s.number) in
    let e : Ends nothing 0 (lines_of input) (short so (0 + length (lines_of input) + 1)) = by_stop s.accepts in
    rw place (ended_so e)
