-- What the checker keeps of a quarter hour is what its shares are looked at against: the gaps, from the figures of its K lines, and the surplus.
-- Assumes nothing.
use Prim.Native.Nat.{ℕ, suc, ◌+◌, ◌*◌, ◌≤◌, ◌<◌}
use mathlib.Core.Path.{◌≡◌, refl, sym, ap, ◌∙◌}
use mathlib.Core.List.{List, [], ◌∷◌, ◌++◌}
use native.Mathlib.Omega.{arith}
use native.Mathlib.Nat.{mul-le-mul_right}
use native.Mathlib.Decide.{dec_lt}
use lib.ListN.{length, drop, get_or, set, length-set, replicate}
use lib.Seq.{get_or-set_same, get_or-set_other}
use Rattle.arithmetic.specs.Whole.{least_of}
use Rattle.arithmetic.specs.declared.energy.Kwh.{Kwh}
use Rattle.series.specs.Scan.{outputs, each}
use Rattle.series.specs.Cuts.{Cut, cuts_of}
use Rattle.series.proofs.Scanned.{each-each}
use Rattle.series.proofs.Each.{each-join, each-blank}
use Rattle.shares.proofs.Padded.{zeros}
use Rattle.vocabulary.specs.declared.direction.Direction.{Direction}
use Rattle.vocabulary.specs.declared.direction.Direction.TheVariants.{Positive, Negative}
use Rattle.vocabulary.specs.declared.sample.Sample.{Sample}
use Rattle.values.specs.declared.value.Quantity.{Quantity}
use Rattle.contracts.specs.declared.terms.Terms.{Terms}
use Rattle.contracts.specs.Terms.{limits_of}
use Rattle.claims.specs.Powers.{next}
use Rattle.claims.specs.Claims.{cap_of, capped_of, gap_of, claim_from}
use Rattle.quarter.specs.Quarter.{figures_in, figures_of, figures_at, sheet_for}
use Rattle.quarter.specs.Blank.{no_figures}
use Rattle.quarter.specs.declared.sheet.Pool.{Pool}
use Rattle.quarter.specs.declared.sheet.Sheet.{Sheet}
use Rattle.quarter.specs.declared.sheet.Sheets.{Sheets}
use Rattle.quarter.proofs.LineLaws.{blank_figures}
use Rattle.meaning.specs.Figures.{gap_of_claim, claim_by, lines_by}
use Rattle.meaning.specs.Given.{Given, deals_in, seconds_in, powers_in, terms_in, per_quarter, lines_in, with_sample}
use Rattle.meaning.specs.Endings.{Proper}
use Rattle.meaning.proofs.Figures.{held_sheet, held-is, held-figures, same-figures}
use Rattle.judging.specs.Kept.{Kept, cap_in, gap_in, gaps_on, no_gaps, row_of, with_sheets}
use Rattle.verdict.specs.Wanted.{surplus_in, gaps_in}

-- ---- a gap, from the figures of its line

gap_back : (setpoint actual acceptance floor shortfall share : Kwh) (t : Terms)
    → gap_in (figures_of (claim_from setpoint actual acceptance floor shortfall) share t) ≡ (claim_from setpoint actual acceptance floor shortfall).gap.0
unfolding gap_in cap_in figures_of claim_from gap_of capped_of cap_of
gap_back setpoint actual acceptance floor shortfall share t = refl

gaps-along : (seconds : ℕ) (powers : Quantity → List ℕ) (shares : List Kwh) (ts : List Terms) (i : ℕ) (cuts : List Cut)
    → each gap_in (outputs next (figures_at shares ts) i (each (claim_by seconds powers) cuts)) ≡ each gap_of_claim (each (claim_by seconds powers) cuts)
unfolding outputs each figures_at claim_by
gaps-along seconds powers shares ts i [] = refl
gaps-along seconds powers shares ts i (c ∷ cuts) = rw (gap_back _ _ _ _ _ _ _, gaps-along seconds powers shares ts (i + 1) cuts)

pub gaps-on-lines : (d : Direction) (g : Given) (q : ℕ) → each gap_in (lines_in d g q) ≡ gaps_in d g q
unfolding lines_in lines_by
gaps-on-lines d g q = gaps-along (seconds_in g) (powers_in d g q) _ (terms_in d g) 0 (cuts_of (limits_of (terms_in d g)))

-- ---- those of a sheet, in 32 places

no_gap : gap_in no_figures ≡ 0
unfolding gap_in cap_in no_figures least_of
no_gap = refl

blank-gaps : (n : ℕ) → each gap_in (drop n blank_figures) ≡ zeros n
unfolding blank_figures
blank-gaps n = each-blank gap_in no_figures 32 n ∙ ap (λ (z : ℕ). drop n (replicate 32 z)) no_gap

module _ (g : Given) (p : Proper g) (q : ℕ) (d : Direction) where
  pub sheet-gaps : gaps_on (held_sheet d g q) ≡ gaps_in d g q ++ zeros (length (deals_in d g))
  sheet-gaps =
      sym (each-each gap_in figures_in (held_sheet d g q).lines)
      ∙ ap (each gap_in) (held-figures g p q d)
      ∙ each-join gap_in (lines_in d g q) (drop (length (deals_in d g)) blank_figures)
      ∙ rw (gaps-on-lines d g q, blank-gaps (length (deals_in d g)))

  pub sheet-surplus : (held_sheet d g q).pool.surplus.0 ≡ surplus_in d g q
  sheet-surplus = rw (held-is g p q d).pool

-- ---- what is kept of the first t quarter hours

pub record Room (kept : Kept) : Type 0 where
  pub gaps : 200 ≤ length kept.gaps
  pub surpluses : 200 ≤ length kept.surpluses
  pub shares : 6400 ≤ length kept.shares

pub record KeptMeets (g : Given) (t : ℕ) (kept : Kept) : Type 0 where
  pub room : Room kept
  pub gaps-at : (q : ℕ) → q < t → (d : Direction) → get_or kept.gaps (row_of q d) no_gaps ≡ gaps_in d g q ++ zeros (length (deals_in d g))
  pub surplus-at : (q : ℕ) → q < t → (d : Direction) → get_or kept.surpluses (row_of q d) 0 ≡ surplus_in d g q

-- nothing yet
pub kept-none : (g : Given) (t : ℕ) (kept : Kept) → Room kept → t ≡ 0 → KeptMeets g t kept
kept-none g t kept r z = record { room = r; gaps-at = λ q h. absurd (omega arith); surplus-at = λ q h. absurd (omega arith) }

-- a sample more leaves what is complete
same-deals : (d : Direction) (g : Given) (x : Sample) → deals_in d (with_sample x g) ≡ deals_in d g
same-deals Positive g x = refl
same-deals Negative g x = refl

pub kept-sample : (g : Given) (t : ℕ) (kept : Kept) (x : Sample) → t * per_quarter g ≤ length g.samples → KeptMeets g t kept → KeptMeets (with_sample x g) t kept
kept-sample g t kept x n k =
    record { room = k.room; gaps-at = gaps; surplus-at = surplus }
  where
    within : (q : ℕ) → q < t → suc q * per_quarter g ≤ length g.samples
    within q h = let l : suc q ≤ t = h in omega (arith, mul-le-mul_right (per_quarter g) l)

    gaps : (q : ℕ) → q < t → (d : Direction) → get_or kept.gaps (row_of q d) no_gaps ≡ gaps_in d (with_sample x g) q ++ zeros (length (deals_in d (with_sample x g)))
    gaps q h d =
        let same : gaps_in d (with_sample x g) q ≡ gaps_in d g q = sym (gaps-on-lines d (with_sample x g) q) ∙ ap (each gap_in) (same-figures d g x q (within q h)).1 ∙ gaps-on-lines d g q in
        rw (same, same-deals d g x) (k.gaps-at q h d)

    surplus : (q : ℕ) → q < t → (d : Direction) → get_or kept.surpluses (row_of q d) 0 ≡ surplus_in d (with_sample x g) q
    surplus q h d = k.surplus-at q h d ∙ sym (ap (λ (pool : Pool). pool.surplus.0) (same-figures d g x q (within q h)).0)

-- a quarter hour more
other_row : (q t : ℕ) (c d : Direction) → q < t → row_of q c ≡ row_of t d → ⊥
other_row q t Positive Positive h e = omega arith
other_row q t Positive Negative h e = omega arith
other_row q t Negative Positive h e = omega arith
other_row q t Negative Negative h e = omega arith

module _ {A : Type 0} (l : List A) (z : A) (t : ℕ) (few : t * 2 + 1 < length l) (a b : A) where
  abbrev both : List A
  both = set (set l (row_of t Positive) a) (row_of t Negative) b

  row_before : (q : ℕ) (d : Direction) → q < t → get_or both (row_of q d) z ≡ get_or l (row_of q d) z
  row_before q d h =
      get_or-set_other (set l (row_of t Positive) a) (row_of t Negative) (row_of q d) b z (other_row q t d Negative h)
      ∙ get_or-set_other l (row_of t Positive) (row_of q d) a z (other_row q t d Positive h)

  row-positive : get_or both (row_of t Positive) z ≡ a
  row-positive =
      get_or-set_other (set l (row_of t Positive) a) (row_of t Negative) (row_of t Positive) b z (λ e. omega arith)
      ∙ get_or-set_same l (row_of t Positive) a z (omega arith)

  row-negative : get_or both (row_of t Negative) z ≡ b
  row-negative = get_or-set_same (set l (row_of t Positive) a) (row_of t Negative) b z (omega (arith, length-set l (row_of t Positive) a))

  rows-length : length both ≡ length l
  rows-length = length-set (set l (row_of t Positive) a) (row_of t Negative) b ∙ length-set l (row_of t Positive) a

pub kept-taken : (g : Given) → Proper g → (t : ℕ) (kept : Kept) (sheets : Sheets) → t < 100 → ((d : Direction) → sheet_for d sheets ≡ held_sheet d g t) → KeptMeets g t kept
    → KeptMeets g (t + 1) (with_sheets kept t sheets)
unfolding with_sheets
kept-taken g p t kept sheets few is k =
    record {
      room = record {
        gaps = omega (arith, k.room.gaps, rows-length kept.gaps no_gaps t (omega (arith, k.room.gaps)) (gaps_on sheets.positive) (gaps_on sheets.negative));
        surpluses = omega (
          arith,
          k.room.surpluses,
          rows-length kept.surpluses 0 t (omega (arith, k.room.surpluses)) sheets.positive.pool.surplus.0 sheets.negative.pool.surplus.0,
        );
        shares = k.room.shares;
      };
      gaps-at = λ q h. gaps q (dec_lt q t) h;
      surplus-at = λ q h. surplus q (dec_lt q t) h;
    }
  where
    gaps : (q : ℕ) → Dec (q < t) → q < t + 1 → (d : Direction)
        → get_or (set (set kept.gaps (row_of t Positive) (gaps_on sheets.positive)) (row_of t Negative) (gaps_on sheets.negative)) (row_of q d) no_gaps
        ≡ gaps_in d g q ++ zeros (length (deals_in d g))
    gaps q (yes l) h d = row_before kept.gaps no_gaps t (omega (arith, k.room.gaps)) (gaps_on sheets.positive) (gaps_on sheets.negative) q d l ∙ k.gaps-at q l d
    gaps q (no l) h Positive =
        let e : q ≡ t = omega arith in
        rw e (row-positive kept.gaps no_gaps t (omega (arith, k.room.gaps)) (gaps_on sheets.positive) (gaps_on sheets.negative) ∙ ap gaps_on (is Positive) ∙ sheet-gaps g p t Positive)
    gaps q (no l) h Negative =
        let e : q ≡ t = omega arith in
        rw e (row-negative kept.gaps no_gaps t (omega (arith, k.room.gaps)) (gaps_on sheets.positive) (gaps_on sheets.negative) ∙ ap gaps_on (is Negative) ∙ sheet-gaps g p t Negative)

    surplus : (q : ℕ) → Dec (q < t) → q < t + 1 → (d : Direction)
        → get_or (set (set kept.surpluses (row_of t Positive) sheets.positive.pool.surplus.0) (row_of t Negative) sheets.negative.pool.surplus.0) (row_of q d) 0 ≡ surplus_in d g q
    surplus q (yes l) h d = row_before kept.surpluses 0 t (omega (arith, k.room.surpluses)) sheets.positive.pool.surplus.0 sheets.negative.pool.surplus.0 q d l ∙ k.surplus-at q l d
    surplus q (no l) h Positive =
        let e : q ≡ t = omega arith in
        rw e (row-positive kept.surpluses 0 t (omega (arith, k.room.surpluses)) sheets.positive.pool.surplus.0 sheets.negative.pool.surplus.0
        ∙ ap (λ (s : Sheet). s.pool.surplus.0) (is Positive) ∙ sheet-surplus g p t Positive)
    surplus q (no l) h Negative =
        let e : q ≡ t = omega arith in
        rw e (row-negative kept.surpluses 0 t (omega (arith, k.room.surpluses)) sheets.positive.pool.surplus.0 sheets.negative.pool.surplus.0
        ∙ ap (λ (s : Sheet). s.pool.surplus.0) (is Negative) ∙ sheet-surplus g p t Negative)
