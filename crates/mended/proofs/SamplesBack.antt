-- The S lines that are printed for a recording are read by a settlement as the samples that they were printed for.
-- Assumes nothing.
use Prim.Native.Nat.{ℕ, zero, suc, ◌+◌, ◌≤◌}
use mathlib.Core.Path.{◌≡◌, refl, ap, ap₂, subst, ◌∙◌}
use mathlib.Core.Bool.{true}
use mathlib.Core.List.{List, [], ◌∷◌, ◌++◌, append_assoc, append-nil}
use native.Mathlib.Omega.{arith}
use lib.IntN.{ℤ, pos}
use lib.ListN.{length}
use Rattle.series.specs.Scan.{each}
use Rattle.vocabulary.specs.Sample.{power_in_range}
use Rattle.vocabulary.specs.Refusals.{Ruling}
use Rattle.vocabulary.specs.declared.sample.Sample.{Sample}
use Rattle.vocabulary.specs.declared.recorded.Recorded.{Recorded}
use Rattle.channel.proofs.HandedOn.{power_small}
use Rattle.print.specs.Decimal.{number_text}
use Rattle.print.specs.Fields.{tabbed}
use Rattle.sheets.specs.Sheet.{line_text}
use Rattle.std.specs.Prelude.{Some}
use Rattle.fields.specs.Numbers.{number_of}
use Rattle.lines.specs.Lines.{lines_of}
use Rattle.lines.proofs.LineLaws.{NoLf, none, another, ended, read_back, written}
use Rattle.reading.specs.Line.{line_of}
use Rattle.reading.specs.declared.Line.TheVariants as L
use Rattle.samples.proofs.LineForm.{Shape, line_in, shape-lines, shape-says}
use Rattle.meaning.specs.Endings.{FairSample, Each, of_none, of_more}
use Rattle.join.proofs.NumberBack.{Visible, number-visible, number-back}
use Rattle.mending.specs.declared.grid.Grid.{Grid}
use Rattle.mending.specs.Mending.{Item, stray, repeated, filled, kept, refused, filled_from, sample_text, mark_text, item_text, items_text}
use Rattle.mended.specs.Promises.{samples_in, EndsIn}
use Rattle.mended.specs.Settles.{sample_lines}
use Rattle.mended.proofs.Standing.{Dropped, as_stray, as_repeated, Mends, no_line_lem, drops, begins, goes_on_lem, Closes}

-- ---- a power is read as what it was printed for

power-back : (z : ℤ) → power_in_range z ≡ true → number_of (number_text z) ≡ Some z
unfolding number_of
power-back z e =
    let s = power_small z e in
    number-back 8 z (omega arith) (omega (arith, s.above)) (omega (arith, s.below))

-- ---- S

abbrev sample_bytes : Sample → List ℕ
sample_bytes x = line_in (number_text x.setpoint) (number_text x.actual)

module _ (x : Sample) (f : FairSample x) (rest : List ℕ) where
  sample-form : sample_text x ++ rest ≡ 83 ∷ (9 ∷ (number_text x.setpoint ++ (9 ∷ (number_text x.actual ++ (10 ∷ rest)))))
  unfolding sample_text line_text tabbed
  sample-form =
      let a = number_text x.setpoint in
      let b = number_text x.actual in
      ap (λ (l : List ℕ). 83 ∷ (9 ∷ l))
      (append_assoc (a ++ (9 ∷ (b ++ []))) (10 ∷ []) rest
      ∙ append_assoc a (9 ∷ (b ++ [])) (10 ∷ rest)
      ∙ ap (λ (l : List ℕ). a ++ (9 ∷ (l ++ (10 ∷ rest)))) (append-nil b))

  shape : Shape (sample_text x ++ rest) 0 (record { setpoint = x.setpoint; actual = x.actual; to = 0 + 2 + length (number_text x.setpoint) + 1 + length (number_text x.actual) + 1 })
  shape =
      record {
        a = number_text x.setpoint;
        b = number_text x.actual;
        rest = rest;
        form = sample-form;
        setpoint = power-back x.setpoint f.setpoint;
        actual = power-back x.actual f.actual;
        setpoint_ranged = f.setpoint;
        actual_ranged = f.actual;
        place = refl;
      }

  sample-first : lines_of (sample_text x ++ rest) ≡ sample_bytes x ∷ lines_of rest
  unfolding shape
  sample-first = shape-lines shape

sample-back : (x : Sample) → FairSample x → line_of (sample_bytes x) ≡ L.Sample x
unfolding shape
sample-back x f = shape-says (shape x f [])

pub samples-back : {xs : List Sample} → Each FairSample xs → each line_of (each sample_bytes xs) ≡ each L.Sample xs
unfolding each
samples-back of_none = refl
samples-back (of_more {x = x} f fs) = ap₂ ◌∷◌ (sample-back x f) (samples-back fs)

-- ---- X

not-lf : (x : ℕ) → Visible x → x ≡ 10 → ⊥
not-lf x v e = omega arith

letter-lf : ◌≡◌ {A = ℕ} 88 10 → ⊥
letter-lf e = omega arith

tab-lf : ◌≡◌ {A = ℕ} 9 10 → ⊥
tab-lf e = omega arith

visible-no-lf : {f g : List ℕ} → Each Visible f → NoLf g → NoLf (f ++ g)
visible-no-lf of_none n = n
visible-no-lf (of_more {x = x} v vs) n = another (not-lf x v) (visible-no-lf vs n)

abbrev mark_bytes : ℤ → ℕ → List ℕ
mark_bytes second kind = 88 ∷ (9 ∷ (number_text second ++ (9 ∷ (kind ∷ []))))

mark-no-lf : (second : ℤ) (kind : ℕ) → (kind ≡ 10 → ⊥) → NoLf (mark_bytes second kind)
mark-no-lf second kind n = another letter-lf (another tab-lf (visible-no-lf (number-visible second) (another tab-lf (another n none))))

mark-form : (second : ℤ) (kind : ℕ) (rest : List ℕ) → mark_text second kind ++ rest ≡ mark_bytes second kind ++ (10 ∷ rest)
unfolding mark_text line_text tabbed
mark-form second kind rest = append_assoc (mark_bytes second kind) (10 ∷ []) rest

mark-first : (second : ℤ) (kind : ℕ) (rest : List ℕ) → (kind ≡ 10 → ⊥) → lines_of (mark_text second kind ++ rest) ≡ mark_bytes second kind ∷ lines_of rest
mark-first second kind rest n = ap lines_of (mark-form second kind rest) ∙ read_back (ended (mark-no-lf second kind n) (written rest))

-- ---- all that was printed, with an E at its end: its S lines are those of its samples

-- the S line of a sample is one, an X line is none
keeps-sample : (x : Sample) (lines : List (List ℕ)) → sample_lines (sample_bytes x ∷ lines) ≡ sample_bytes x ∷ sample_lines lines
unfolding sample_lines
keeps-sample x lines = refl

leaves-mark : (second : ℤ) (kind : ℕ) (lines : List (List ℕ)) → sample_lines (mark_bytes second kind ∷ lines) ≡ sample_lines lines
unfolding sample_lines
leaves-mark second kind lines = refl

-- no item is a refusal
data Plain : List Item → Type 0 where
  no_item : Plain []
  of_stray : {second : ℤ} {items : List Item} → Plain items → Plain (stray second ∷ items)
  of_repeated : {second : ℤ} {items : List Item} → Plain items → Plain (repeated second ∷ items)
  of_filled : {second : ℕ} {x : Sample} {items : List Item} → FairSample x → Plain items → Plain (filled second x ∷ items)
  of_kept : {x : Sample} {items : List Item} → FairSample x → Plain items → Plain (kept x ∷ items)

other-letter : (kind : ℕ) → 11 ≤ kind → kind ≡ 10 → ⊥
other-letter kind h e = omega arith

marked : (second : ℤ) (kind : ℕ) (rest : List ℕ) → 11 ≤ kind → sample_lines (lines_of (mark_text second kind ++ rest)) ≡ sample_lines (lines_of rest)
marked second kind rest h = ap sample_lines (mark-first second kind rest (other-letter kind h)) ∙ leaves-mark second kind (lines_of rest)

sampled : (x : Sample) (rest : List ℕ) → FairSample x → sample_lines (lines_of (sample_text x ++ rest)) ≡ sample_bytes x ∷ sample_lines (lines_of rest)
sampled x rest f = ap sample_lines (sample-first x f rest) ∙ keeps-sample x (lines_of rest)

-- THEIR S LINES
plain_lines : {items : List Item} → Plain items → sample_lines (lines_of (items_text items)) ≡ each sample_bytes (samples_in items)
unfolding items_text item_text samples_in each sample_lines lines_of
plain_lines no_item = refl
plain_lines (of_stray {second = second} {items = items} p) = marked second 79 (items_text items) (omega arith) ∙ plain_lines p
plain_lines (of_repeated {second = second} {items = items} p) = marked second 84 (items_text items) (omega arith) ∙ plain_lines p
plain_lines (of_filled {second = second} {x = x} {items = items} f p) =
    ap (λ (l : List ℕ). sample_lines (lines_of l)) (append_assoc (mark_text (pos second) 77) (sample_text x) (items_text items))
    ∙ marked (pos second) 77 (sample_text x ++ items_text items) (omega arith)
    ∙ sampled x (items_text items) f
    ∙ ap (λ (l : List (List ℕ)). sample_bytes x ∷ l) (plain_lines p)
plain_lines (of_kept {x = x} {items = items} f p) = sampled x (items_text items) f ∙ ap (λ (l : List (List ℕ)). sample_bytes x ∷ l) (plain_lines p)

plain-fair : {items : List Item} → Plain items → Each FairSample (samples_in items)
unfolding samples_in
plain-fair no_item = of_none
plain-fair (of_stray p) = plain-fair p
plain-fair (of_repeated p) = plain-fair p
plain-fair (of_filled f p) = of_more f (plain-fair p)
plain-fair (of_kept f p) = of_more f (plain-fair p)

no-refusal : (before after : List Item) (l : ℕ) (r : Ruling) → Plain (before ++ (refused l r ∷ after)) → ⊥
no-refusal [] after l r x' = elim x' [ ]
no-refusal (stray second ∷ before) after l r (of_stray p) = no-refusal before after l r p
no-refusal (repeated second ∷ before) after l r (of_repeated p) = no-refusal before after l r p
no-refusal (filled second x ∷ before) after l r (of_filled f p) = no-refusal before after l r p
no-refusal (kept x ∷ before) after l r (of_kept f p) = no-refusal before after l r p
no-refusal (refused _ _ ∷ before) after l r x6 = elim x6 [ ]

plain-both : {a b : List Item} → Plain a → Plain b → Plain (a ++ b)
plain-both no_item q = q
plain-both (of_stray p) q = of_stray (plain-both p q)
plain-both (of_repeated p) q = of_repeated (plain-both p q)
plain-both (of_filled f p) q = of_filled f (plain-both p q)
plain-both (of_kept f p) q = of_kept f (plain-both p q)

plain-filled : (t : Grid) {x : Sample} (n k : ℕ) → FairSample x → Plain (filled_from t x n k)
unfolding filled_from
plain-filled t n zero f = no_item
plain-filled t n (suc k) f = of_filled f (plain-filled t (n + 1) k f)

plain-dropped : {row : Recorded} {item : Item} → Dropped row item → Plain (item ∷ [])
plain-dropped as_stray = of_stray no_item
plain-dropped as_repeated = of_repeated no_item

-- the good lines are in range, so what is filled is
abbrev FairRow : Recorded → Type 0
FairRow row = FairSample row.sample

fair-end : {good : List Recorded} (row : Recorded) → Each FairRow good → FairRow row → Each FairRow (good ++ (row ∷ []))
fair-end row of_none f = of_more {x = row} f of_none
fair-end row (of_more {x = x} g gs) f = of_more {x = x} g (fair-end row gs f)

fair-last : (before : List Recorded) (row : Recorded) → Each FairRow (before ++ (row ∷ [])) → FairRow row
fair-last [] row (of_more f fs) = f
fair-last (x ∷ before) row (of_more f fs) = fair-last before row fs

last-fair : {good : List Recorded} {g : Recorded} → Each FairRow good → EndsIn g good → FairRow g
last-fair {g = g} fs e = fair-last e.before g (rw e.is at fs)

good-fair : {t : Grid} {rows good : List Recorded} {items : List Item} {n : ℕ} → Mends t rows good items n → Each FairRow good
good-fair no_line_lem = of_none
good-fair (drops d m) = good-fair m
good-fair (begins row f r z m) = of_more {x = row} f of_none
good-fair (goes_on_lem row k i f w e s m) = fair-end row (good-fair m) f

mends-plain : {t : Grid} {rows good : List Recorded} {items : List Item} {n : ℕ} → Mends t rows good items n → Plain items
mends-plain no_line_lem = no_item
mends-plain (drops d m) = plain-both (mends-plain m) (plain-dropped d)
mends-plain (begins row f r z m) = plain-both (mends-plain m) (of_kept f no_item)
mends-plain {t} (goes_on_lem {n = n} row k i f w e s m) =
    plain-both (mends-plain m) (plain-both (plain-filled t n k (last-fair (good-fair m) i)) (of_kept f no_item))

-- a recording that was accepted, with what is filled at its end
module _ {t : Grid} {rows good : List Recorded} {items : List Item} {n : ℕ} (m : Mends t rows good items n) (c : Closes t rows good n) where
  abbrev all : List Item
  all = items ++ filled_from t c.g.sample n c.missing

  plain-all : Plain all
  plain-all = plain-both (mends-plain m) (plain-filled t n c.missing (last-fair (good-fair m) c.lasts))

  -- IN RANGE
  pub all_fair : Each FairSample (samples_in all)
  all_fair = plain-fair plain-all

  -- AND READ BACK
  pub all_back : each line_of (sample_lines (lines_of (items_text all))) ≡ each L.Sample (samples_in all)
  all_back = ap (each line_of) (plain_lines plain-all) ∙ samples-back all_fair

  -- NONE IS A REFUSAL
  pub none-refused : (before after : List Item) (l : ℕ) (r : Ruling) → all ≡ before ++ (refused l r ∷ after) → ⊥
  none-refused before after l r e = no-refusal before after l r (subst Plain e plain-all)
