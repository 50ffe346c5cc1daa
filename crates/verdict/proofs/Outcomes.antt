-- How an input comes out: it is judged exactly if it is settled up to its E and its U lines are those that are wanted.
-- Assumes nothing.
use Prim.Native.Nat.{ℕ, suc, ◌+◌}
use mathlib.Core.Path.{◌≡◌, refl, sym, ap, ◌∙◌}
use mathlib.Core.Bool.{Bool, true, false, cond, not, ◌&&◌}
use mathlib.Core.List.{List, [], ◌∷◌, ◌++◌, append_assoc, append-nil}
use native.Mathlib.Omega.{arith}
use lib.Dec.{eqb}
use lib.IntN.{ℤ, pos, negsuc}
use lib.ListN.{length, drop}
use lib.Signed.{lt_z}
use borrow.Author.Tests.{eqb-true, eq-eqb, le-ltb, not-true}
use Rattle.arithmetic.specs.Whole.{up}
use Rattle.arithmetic.proofs.Signed.{up_pos}
use Rattle.arithmetic.proofs.Booleans.{true-false, both}
use Rattle.vocabulary.specs.declared.direction.Direction.{Direction}
use Rattle.vocabulary.specs.declared.direction.Direction.TheVariants.{Positive, Negative}
use Rattle.vocabulary.specs.declared.refusal.Refusal.TheVariants.{BadIdentifier, BadBlockLength, MisplacedShare}
use Rattle.vocabulary.specs.Refusals.{Ruling, accepted}
use Rattle.vocabulary.specs.Grounds.{on, first}
use Rattle.contracts.specs.Identifier.{well_formed, same_bytes}
use Rattle.sheets.specs.Sheet.{letter_of}
use Rattle.reading.specs.Line.{line_of, identifier_of}
use Rattle.reading.specs.declared.Line.{Line}
use Rattle.meaning.specs.Given.{Given}
use Rattle.meaning.specs.Meaning.{SoFar, nothing, these, lacks, grounds, ground, after}
use Rattle.meaning.specs.Endings.{Accepts, none, more, Each, of_more}
use Rattle.reading.specs.declared.share.Share.{Share}
use Rattle.reading.specs.declared.share.Asked.{Asked}
use Rattle.reading.specs.Share.{asked_of, whose_of}
use Rattle.verdict.specs.Wanted.{Wanted, wanted_in}
use Rattle.verdict.specs.Checked.{says_for, asked_grounds, asked_ground, after_asked, share_grounds, share_ground, with_share}
use Rattle.verdict.specs.Checked.{Outcome, refused, judged, share_lines, after_end, unless_end, outcome}
use Rattle.verdict.specs.Promises.{SaysShares}
use Rattle.join.proofs.Accepting.{accept}
use Rattle.verdict.proofs.Asking.{settling-line, line-settling}
use Rattle.reading.specs.declared.Line.TheVariants as L
use Rattle.reading.specs.declared.share.Asked.TheVariants as A
use Rattle.verdict.specs.Promises as P

-- ---- the share that is wanted

same-is : (a b : List ℕ) → same_bytes a b ≡ true → a ≡ b
unfolding same_bytes
same-is [] [] e = refl
same-is [] (y ∷ ys) e = cc
same-is (x ∷ xs) [] e = cc
same-is (x ∷ xs) (y ∷ ys) e =
    let p = both (eqb x y) (same_bytes xs ys) e in
    rw (eqb-true x y p.0, same-is xs ys p.1)

same_self : (a : List ℕ) → same_bytes a a ≡ true
unfolding same_bytes
same_self [] = refl
same_self (x ∷ xs) = rw (eq-eqb x x refl) (same_self xs)

letter-is : (c d : Direction) → eqb (letter_of c) (letter_of d) ≡ true → c ≡ d
letter-is Positive Positive e = refl
letter-is Positive Negative e = cc
letter-is Negative Positive e = cc
letter-is Negative Negative e = refl

letter-self : (d : Direction) → eqb (letter_of d) (letter_of d) ≡ true
letter-self Positive = refl
letter-self Negative = refl

not_below : (z : ℤ) → lt_z z (pos 0) ≡ false → z ≡ pos (up z)
unfolding up
not_below (pos n) e = refl
not_below (negsuc n) e = cc

record For (w : Wanted) (s : Share) (identifier : List ℕ) : Type 0 where
  quarter : s.quarter ≡ pos w.quarter
  direction : s.direction ≡ w.direction
  whose : identifier ≡ w.identifier

says-for : (w : Wanted) (s : Share) (identifier : List ℕ) → says_for w s identifier ≡ true → For w s identifier
unfolding says_for
says-for w s identifier e =
    let a = not (lt_z s.quarter (pos 0)) in
    let b = eqb (up s.quarter) w.quarter in
    let c = eqb (letter_of s.direction) (letter_of w.direction) in
    let abc = both (a && b && c) (same_bytes identifier w.identifier) e in
    let ab = both (a && b) c abc.0 in
    let one = both a b ab.0 in
    record {
      quarter = not_below s.quarter (not-true (lt_z s.quarter (pos 0)) one.0) ∙ ap pos (eqb-true (up s.quarter) w.quarter one.1);
      direction = letter-is s.direction w.direction ab.1;
      whose = same-is identifier w.identifier abc.1;
    }

for-says : (w : Wanted) (s : Share) (identifier : List ℕ) → For w s identifier → says_for w s identifier ≡ true
unfolding says_for
for-says w s identifier f =
    rw (f.quarter, f.direction, f.whose, le-ltb w.quarter 0 (omega arith), up_pos w.quarter, eq-eqb w.quarter w.quarter refl, letter-self w.direction, same_self w.identifier)

-- ---- after E

abbrev pub Named : Wanted → Type 0
Named w = well_formed w.identifier ≡ true

share-passes : (w : Wanted) (ws : List Wanted) (line : List ℕ) (s : Share) → asked_of line ≡ A.Share s → Named w → For w s (whose_of line) → accepted (share_ground (w ∷ ws) line (asked_of line)) ≡ true
unfolding share_grounds
share-passes w ws line s e named f = rw (e, for-says w s (whose_of line) f, f.whose, named)

pub lines-judged : (g : Given) {us : List (List ℕ)} {ws : List Wanted} {shares : List ℤ} → Each Named ws → SaysShares us ws shares → (before : List ℤ) (n : ℕ)
    → share_lines g ws before n us ≡ judged g (before ++ shares)
unfolding share_lines
lines-judged g named P.none before n = rw (append-nil before)
lines-judged g (of_more named rest) (P.more {line} {lines} {w} {ws} {shares} s e q d i says) before n =
    rw (share-passes w ws line s e named (record { quarter = q; direction = d; whose = i }), e)
    (lines-judged g rest says (before ++ (s.kwh ∷ [])) (n + 1) ∙ ap (judged g) (append_assoc before (s.kwh ∷ []) shares))

-- and back
record Judged (g : Given) (us : List (List ℕ)) (ws : List Wanted) (before : List ℤ) (h : Given) (all : List ℤ) : Type 0 where
  same : h ≡ g
  shares : List ℤ
  whole : all ≡ before ++ shares
  says : SaysShares us ws shares

apart : {X : Type 0} {n : ℕ} {refusal : Ruling} {g : Given} {shares : List ℤ} → refused n refusal ≡ judged g shares → X
apart e = cc

pub late-refused : (ws : List Wanted) (line : List ℕ) (said : Line) → accepted (share_ground ws line (A.Settling said)) ≡ false
unfolding share_grounds
late-refused ws line (L.Header h) = refl
late-refused ws line (L.Bounds bounds) = refl
late-refused ws line (L.Setpoint s) = refl
late-refused ws line (L.Contract c) = refl
late-refused ws line (L.Sample x) = refl
late-refused ws line L.End = refl
late-refused ws line L.Malformed = refl

-- a share passes where its identifier is well-formed and it is the one that is wanted
abbrev passing : Bool → Bool → Ruling
passing named wanted = first (on BadIdentifier (not named) ∷ on MisplacedShare (not wanted) ∷ [])

passed-both : (a b : Bool) → accepted (passing a b) ≡ true → b ≡ true
passed-both true true e = refl
passed-both true false e = cc
passed-both false b e = cc

pub surplus-refused : (line : List ℕ) (s : Share) → accepted (share_ground [] line (A.Share s)) ≡ false
unfolding share_grounds
surplus-refused line s = go (well_formed (whose_of line))
  where
    go : (a : Bool) → accepted (passing a false) ≡ false
    go true = refl
    go false = refl

passed : (w : Wanted) (ws : List Wanted) (line : List ℕ) (s : Share) → accepted (share_ground (w ∷ ws) line (A.Share s)) ≡ true → says_for w s (whose_of line) ≡ true
unfolding share_grounds
passed w ws line s = passed-both (well_formed (whose_of line)) (says_for w s (whose_of line))

settled-ground : (so : SoFar) (line : List ℕ) (said : Line) → accepted (ground so (identifier_of line) said) ≡ accepted (asked_ground so line (A.Settling said))
unfolding asked_grounds
settled-ground so line said = refl

judged-lines : (g : Given) (us : List (List ℕ)) (ws : List Wanted) (before : List ℤ) (n : ℕ) (h : Given) (all : List ℤ) → share_lines g ws before n us ≡ judged h all → Judged g us ws before h all
unfolding share_lines
judged-lines g [] [] before n h all e = record { same = cc; shares = []; whole = cc (append-nil before); says = P.none }
judged-lines g [] (w ∷ ws) before n h all e = cc
judged-lines g (line ∷ us) ws before n h all e = go ws (accepted (share_ground ws line (asked_of line))) refl (asked_of line) refl e (judged-lines g us)
  where
    go : (ws : List Wanted) (t : Bool) → accepted (share_ground ws line (asked_of line)) ≡ t → (a : Asked) → asked_of line ≡ a
        → cond t (share_lines g (drop 1 ws) (with_share before a) (n + 1) us) (refused n (share_ground ws line a)) ≡ judged h all
        → ((ws : List Wanted) (before : List ℤ) (n : ℕ) (h : Given) (all : List ℤ) → share_lines g ws before n us ≡ judged h all → Judged g us ws before h all)
        → Judged g (line ∷ us) ws before h all
    go ws false p a q e rest = apart e
    go ws true p (A.Settling said) q e rest = true-false (rw q at p) (late-refused ws line said)
    go [] true p (A.Share s) q e rest = true-false (rw q at p) (surplus-refused line s)
    go (w ∷ ws) true p (A.Share s) q e rest =
        let f = says-for w s (whose_of line) (passed w ws line s (rw q at p)) in
        let r = rest ws (before ++ (s.kwh ∷ [])) (n + 1) h all e in
        record {
          same = r.same;
          shares = s.kwh ∷ r.shares;
          whole = r.whole ∙ append_assoc before (s.kwh ∷ []) r.shares;
          says = P.more s q f.quarter f.direction f.whose r.says;
        }

-- ---- up to E

malformed-refused : (so : SoFar) (identifier : List ℕ) → accepted (ground so identifier L.Malformed) ≡ false
unfolding grounds
malformed-refused nothing identifier = refl
malformed-refused (these g) identifier = refl

unless_not : (said : Line) (ended rest : Outcome) → (said ≡ L.End → ⊥) → unless_end (A.Settling said) ended rest ≡ rest
unless_not (L.Header h) ended rest n = refl
unless_not (L.Bounds bounds) ended rest n = refl
unless_not (L.Setpoint s) ended rest n = refl
unless_not (L.Contract c) ended rest n = refl
unless_not (L.Sample x) ended rest n = refl
unless_not L.End ended rest n = absurd (n refl)
unless_not L.Malformed ended rest n = refl

pub ends-shares : {so last : SoFar} {before : List (List ℕ)} → Accepts so before last → (end : List ℕ) (us : List (List ℕ)) (n : ℕ) → line_of end ≡ L.End
    → accepted (ground last (identifier_of end) L.End) ≡ true → outcome so n (before ++ (end ∷ us)) ≡ after_end last (n + length before + 1) us
unfolding outcome asked_grounds
ends-shares {so} none end us n ends complete =
    let known : line_of end ≡ L.Malformed → ⊥ = λ m. cc in
    let asked : asked_of end ≡ A.Settling L.End = line-settling end known ∙ ap A.Settling ends in
    let m : n + 0 + 1 ≡ n + 1 = omega arith in
    rw (asked, complete, m)
ends-shares {so} (more {line} {lines} ok not_end rest) end us n ends complete =
    let known : line_of line ≡ L.Malformed → ⊥ = λ m. true-false (rw m at ok) (malformed-refused so (identifier_of line)) in
    let asked : asked_of line ≡ A.Settling (line_of line) = line-settling line known in
    let m : n + suc (length lines) + 1 ≡ n + 1 + length lines + 1 = omega arith in
    rw (asked, ok, m) (unless_not (line_of line) (after_end so (n + 1) (lines ++ (end ∷ us))) (outcome (after so (identifier_of line) (line_of line)) (n + 1) (lines ++ (end ∷ us))) not_end
    ∙ ends-shares rest end us (n + 1) ends complete)

-- and back
pub record Parted (so : SoFar) (lines : List (List ℕ)) (g : Given) (shares : List ℤ) : Type 0 where
  pub before : List (List ℕ)
  pub end : List ℕ
  pub after : List (List ℕ)
  pub whole : lines ≡ before ++ (end ∷ after)
  pub accepts : Accepts so before (these g)
  pub ends : line_of end ≡ L.End
  pub complete : accepted (ground (these g) (identifier_of end) L.End) ≡ true
  pub said : SaysShares after (wanted_in g) shares

pub early-refused : (so : SoFar) (line : List ℕ) (s : Share) → accepted (asked_ground so line (A.Share s)) ≡ false
unfolding asked_grounds
early-refused nothing line s = refl
early-refused (these g) line s = go (well_formed (whose_of line)) (lacks g)
  where
    go : (a b : Bool) → accepted (first (on BadIdentifier (not a) ∷ on BadBlockLength b ∷ on MisplacedShare true ∷ [])) ≡ false
    go false b = refl
    go true true = refl
    go true false = refl

one-before : (so : SoFar) (line : List ℕ) (lines : List (List ℕ)) (g : Given) (shares : List ℤ) (said : Line) → (said ≡ L.End → ⊥) → line_of line ≡ said
    → accepted (ground so (identifier_of line) said) ≡ true → Parted (after so (identifier_of line) said) lines g shares → Parted so (line ∷ lines) g shares
one-before so line lines g shares said n e a r =
    record {
      before = line ∷ r.before;
      end = r.end;
      after = r.after;
      whole = ap (λ (l : List (List ℕ)). line ∷ l) r.whole;
      accepts = accept so line said e a n r.accepts;
      ends = r.ends;
      complete = r.complete;
      said = r.said;
    }

not_end : (said : Line) → Dec (said ≡ L.End)
not_end (L.Header h) = no (λ e. cc)
not_end (L.Bounds bounds) = no (λ e. cc)
not_end (L.Setpoint s) = no (λ e. cc)
not_end (L.Contract c) = no (λ e. cc)
not_end (L.Sample x) = no (λ e. cc)
not_end L.End = yes refl
not_end L.Malformed = no (λ e. cc)

end-here : (so : SoFar) (line : List ℕ) (lines : List (List ℕ)) (n : ℕ) (g : Given) (shares : List ℤ) → line_of line ≡ L.End → accepted (ground so (identifier_of line) L.End) ≡ true
    → after_end so n lines ≡ judged g shares → Parted so (line ∷ lines) g shares
end-here nothing line lines n g shares e a j = apart j
end-here (these h) line lines n g shares e a j =
    let r = judged-lines h lines (wanted_in h) [] n g shares j in
    rw r.same (record {
      before = [];
      end = line;
      after = lines;
      whole = refl;
      accepts = none;
      ends = e;
      complete = a;
      said = rw r.whole r.says;
    })

pub judged-ends : (lines : List (List ℕ)) (so : SoFar) (n : ℕ) (g : Given) (shares : List ℤ) → outcome so n lines ≡ judged g shares → Parted so lines g shares
unfolding outcome
judged-ends [] so n g shares e = apart e
judged-ends (line ∷ lines) so n g shares e = go (accepted (asked_ground so line (asked_of line))) refl (asked_of line) refl e (judged-ends lines)
  where
    go : (t : Bool) → accepted (asked_ground so line (asked_of line)) ≡ t → (a : Asked) → asked_of line ≡ a
        → cond t (unless_end a (after_end so (n + 1) lines) (outcome (after_asked so line a) (n + 1) lines)) (refused n (asked_ground so line a)) ≡ judged g shares
        → ((so : SoFar) (n : ℕ) (g : Given) (shares : List ℤ) → outcome so n lines ≡ judged g shares → Parted so lines g shares) → Parted so (line ∷ lines) g shares
    go false p a q e rest = apart e
    go true p (A.Share s) q e rest = true-false (rw q at p) (early-refused so line s)
    go true p (A.Settling said) q e rest = by (not_end said)
      where
        ok : accepted (ground so (identifier_of line) said) ≡ true
        ok = settled-ground so line said ∙ rw q at p

        by : Dec (said ≡ L.End) → Parted so (line ∷ lines) g shares
        by (yes d) = end-here so line lines (n + 1) g shares (settling-line line said q ∙ d) (rw d at ok) (rw d at e)
        by (no d) =
            one-before so line lines g shares said d (settling-line line said q) ok
            (rest (after so (identifier_of line) said) (n + 1) g shares (sym (unless_not said (after_end so (n + 1) lines) (outcome (after so (identifier_of line) said) (n + 1) lines) d) ∙ e))
