-- THE PROMISES of the check of shares over whole inputs: what is said where the U lines are those that are wanted, and when an input is accepted.
-- Assumes nothing.
use Prim.Native.Nat.{ℕ, zero, suc, ◌+◌, ◌<◌}
use mathlib.Core.Path.{◌≡◌, refl, sym, ap, ◌∙◌}
use mathlib.Core.List.{List, []}
use native.Mathlib.Omega.{arith}
use native.Mathlib.Decide.{dec_lt}
use lib.IntN.{ℤ}
use lib.ListN.{length, get_or}
use Rattle.series.specs.Scan.{each}
use Rattle.vocabulary.specs.declared.direction.Direction.{Direction}
use Rattle.vocabulary.specs.declared.direction.Direction.TheVariants.{Positive, Negative}
use Rattle.sheets.specs.Sheet.{line_text, refusal_text}
use Rattle.sheets.specs.Verdict.{accepted_text, failing_text, verdict_text}
use Rattle.sheets.specs.declared.verdict.Verdict.{Verdict}
use Rattle.sheets.specs.declared.verdict.Verdict.TheVariants.{Accepted, Failing}
use Rattle.lines.specs.Lines.{lines_of}
use Rattle.meaning.specs.Given.{Deal, Given, quarters_in}
use Rattle.meaning.specs.Meaning.{nothing, these}
use Rattle.meaning.specs.Endings.{Accepts, Each, of_none, of_more, FairDeal, Proper, ProperSo, not_yet, so_far}
use Rattle.meaning.proofs.Proper.{proper-lines}
use Rattle.join.proofs.NumberBack.{each_both}
use Rattle.verdict.specs.Wanted.{wanted_of, wanted_up_to, verdict_of}
use Rattle.verdict.specs.Checked.{Outcome, refused, judged, outcome, outcome_of, told, checked}
use Rattle.verdict.specs.Promises.{SharesSaid, AllAcceptable, earlier, first, FirstFailing, IsAccepted, Judges, accepts, names}
use Rattle.verdict.proofs.Verdicts.{verdict-accepts, accepted-holds, failing-first}
use Rattle.verdict.proofs.Outcomes.{Named, lines-judged, ends-shares, judged-ends}

-- ---- the identifiers that are wanted are well-formed

named-deals : (q : ℕ) (d : Direction) {xs : List Deal} → Each FairDeal xs → Each Named (each (wanted_of q d) xs)
unfolding each
named-deals q d of_none = of_none
named-deals q d (of_more f fs) = of_more f.named (named-deals q d fs)

named-wanted : (g : Given) → Proper g → (q : ℕ) → Each Named (wanted_up_to g q)
unfolding wanted_up_to
named-wanted g p zero = of_none
named-wanted g p (suc q) =
    each_both (named-wanted g p q) (each_both (named-deals q Positive p.positives.deals) (named-deals q Negative p.negatives.deals))

pub proper-of : {g : Given} {before : List (List ℕ)} → Accepts nothing before (these g) → Proper g
proper-of a = go (proper-lines not_yet a)
  where
    go : {g : Given} → ProperSo (these g) → Proper g
    go (so_far p) = p

-- ---- what is said of an input whose U lines are those that are wanted

pub said-judged : {input : List ℕ} {g : Given} {shares : List ℤ} → SharesSaid input g shares → outcome_of input ≡ judged g shares
unfolding outcome_of
said-judged {input} {g} {shares} s =
    ap (outcome nothing 1) s.lines
    ∙ ends-shares s.accepts s.end s.after 1 s.ends s.complete
    ∙ lines-judged g (named-wanted g (proper-of s.accepts) (quarters_in g)) s.said [] (1 + length s.before + 1)

pub judged-said : (input : List ℕ) (g : Given) (shares : List ℤ) → outcome_of input ≡ judged g shares → SharesSaid input g shares
unfolding outcome_of
judged-said input g shares e =
    let p = judged-ends (lines_of input) nothing 1 g shares e in
    record {
      before = p.before;
      end = p.end;
      after = p.after;
      lines = p.whole;
      accepts = p.accepts;
      ends = p.ends;
      complete = p.complete;
      said = p.said;
    }

-- A or F
pub shares-checked : {input : List ℕ} {g : Given} {shares : List ℤ} → SharesSaid input g shares → checked input ≡ verdict_text (verdict_of g shares)
unfolding checked
shares-checked s = ap told (said-judged s)

-- ACCEPTED: all are acceptable
pub acceptable-accepted : {input : List ℕ} {g : Given} {shares : List ℤ} → SharesSaid input g shares → AllAcceptable g shares → checked input ≡ accepted_text (quarters_in g)
acceptable-accepted {input} {g} {shares} s all = shares-checked s ∙ ap verdict_text (verdict-accepts g shares all)

-- AND NOTHING ELSE IS ACCEPTED
pub accepted-only : (input : List ℕ) (n : ℕ) → checked input ≡ accepted_text n → IsAccepted input n
unfolding checked accepted_text failing_text refusal_text line_text
accepted-only input n = go (outcome_of input) refl
  where
    go : (o : Outcome) → outcome_of input ≡ o → told o ≡ accepted_text n → IsAccepted input n
    go (refused m refusal) p e = let z : ◌≡◌ {A = ℕ} 82 65 = ap (λ (l : List ℕ). get_or l 0 0) e in absurd (omega arith)
    go (judged g shares) p e = by (verdict_of g shares) refl e
      where
        by : (v : Verdict) → verdict_of g shares ≡ v → verdict_text v ≡ accepted_text n → IsAccepted input n
        by (Accepted m) q t =
            let all : AllAcceptable g shares = accepted-holds g shares m q in
            let same : Accepted m ≡ Accepted (quarters_in g) = sym q ∙ verdict-accepts g shares all in
            record {
              given = g;
              shares = shares;
              said = judged-said input g shares p;
              all = all;
              quarters = sym t ∙ ap verdict_text same;
            }
        by (Failing q d) r t = let z : ◌≡◌ {A = ℕ} 70 65 = ap (λ (l : List ℕ). get_or l 0 0) t in absurd (omega arith)

-- OTHERWISE THE FIRST that does not hold is named
pub checked-judges : {input : List ℕ} {g : Given} {shares : List ℤ} → SharesSaid input g shares → Judges g shares (checked input)
checked-judges {input} {g} {shares} s = rw (shares-checked s) (by (verdict_of g shares) refl)
  where
    by : (v : Verdict) → verdict_of g shares ≡ v → Judges g shares (verdict_text v)
    by (Accepted m) q =
        let all : AllAcceptable g shares = accepted-holds g shares m q in
        let same : Accepted m ≡ Accepted (quarters_in g) = sym q ∙ verdict-accepts g shares all in
        accepts all (ap verdict_text same)
    by (Failing q d) e = names q d (failing-first g shares q d e) refl

-- there is one first only
pub first-only : (g : Given) (shares : List ℤ) (p q : ℕ) (c d : Direction) → FirstFailing g shares p c → FirstFailing g shares q d → (p ≡ q) × (c ≡ d)
first-only g shares p q c d a b = go (dec_lt p q) (dec_lt q p)
  where
    same : (c d : Direction) → FirstFailing g shares p c → FirstFailing g shares p d → c ≡ d
    same Positive Positive a b = refl
    same Positive Negative a b = absurd (a.fails (b.others p Positive first))
    same Negative Positive a b = absurd (b.fails (a.others p Positive first))
    same Negative Negative a b = refl

    go : Dec (p < q) → Dec (q < p) → (p ≡ q) × (c ≡ d)
    go (yes h) l = absurd (a.fails (b.others p c (earlier h)))
    go (no h) (yes l) = absurd (b.fails (a.others q d (earlier l)))
    go (no h) (no l) = let e : p ≡ q = omega arith in (e, same c d a (rw (← e) at b))
