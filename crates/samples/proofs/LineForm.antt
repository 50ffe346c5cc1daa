-- A sample line in range by its bytes, and by what the line says.
use Rattle.arithmetic.specs.declared.date.Date.{Date}
use Rattle.vocabulary.specs.declared.direction.Direction.{Direction}
use Rattle.vocabulary.specs.declared.header.Lot.{Lot}
use Rattle.std.specs.Prelude.{Option, Some, None}
use Rattle.std.proofs.Common.{◌≡◌, ℕ, ◌+◌, ◌≤◌, Bool, true, false, cond, ◌&&◌, eqb, ltb, List, [], ◌∷◌, ◌++◌, length, drop, ℤ, sym, refl, ap, ◌∙◌, arith, length-append, le-ltb}
use Rattle.vocabulary.specs.declared.sample.Sample.{Sample}
use Rattle.fields.specs.Fields.{fields, field_at}
use Rattle.fields.proofs.FieldLaws.{counted}
use Rattle.fields.specs.Numbers.{long_number_of, number_of}
use Rattle.lines.specs.Lines.{lines_of}
use Rattle.lines.proofs.LineLaws.{written}
use Rattle.fields.specs.Day.{day_of}
use Rattle.reading.specs.Line.{is_letter, kind_of, direction_of, lot_of, by_kind, line_of}
use Rattle.reading.specs.Line.{header_fields, bounds_fields, setpoint_fields, contract_fields, sample_fields}
use Rattle.reading.specs.Line.{header_of, bounds_of, setpoint_of, contract_of, sample_of, end_of}
use Rattle.reading.specs.declared.Kind.{Kind}
use Rattle.reading.specs.declared.Kind.TheVariants as K
use Rattle.reading.specs.declared.Line.{Line}
use Rattle.reading.specs.declared.Line.TheVariants as L
use Rattle.vocabulary.specs.Sample.{power_in_range}
use Rattle.samples.specs.Scan.{row_of, first_of}
use Rattle.samples.specs.declared.Row.{Row}
use Rattle.samples.proofs.Joined.{Shorts, no_field, a-field, short-number, a-letter, joined-fields, joined-few, joined-first, one_line, line-of, by_first, by-second, leads, letter}

-- S, a tab, a power, a tab, a power and an LF at a place
pub record Shape (s : List ℕ) (at : ℕ) (row : Row) : Type 0 where
  pub a : List ℕ
  pub b : List ℕ
  pub rest : List ℕ
  pub form : drop at s ≡ 83 ∷ (9 ∷ (a ++ (9 ∷ (b ++ (10 ∷ rest)))))
  pub setpoint : number_of a ≡ Some row.setpoint
  pub actual : number_of b ≡ Some row.actual
  pub setpoint_ranged : power_in_range row.setpoint ≡ true
  pub actual_ranged : power_in_range row.actual ≡ true
  pub place : row.to ≡ at + 2 + length a + 1 + length b + 1

-- what the line says
module _ (a b : List ℕ) (x y : ℤ) (p : number_of a ≡ Some x) (q : number_of b ≡ Some y) (u : power_in_range x ≡ true) (v : power_in_range y ≡ true) where
  pub sample-line : line_of (83 ∷ (9 ∷ (a ++ (9 ∷ b)))) ≡ L.Sample (record { setpoint = x; actual = y })
  unfolding line_of field_at kind_of is_letter sample_of
  sample-line =
      let powers : Shorts (a ∷ (b ∷ [])) = a-field (short-number a x p u) (a-field (short-number b y q v) no_field) in
      let few : length (83 ∷ (9 ∷ (a ++ (9 ∷ b)))) ≤ 80 = omega (arith, joined-few (83 ∷ []) powers) in
      rw (le-ltb _ _ few, joined-fields (a-letter 83 (omega arith)) powers, p, q)

-- the line ends where its LF stands
module _ (a b rest : List ℕ) where
  line-length : length (83 ∷ (9 ∷ (a ++ (9 ∷ b)))) ≡ 3 + length a + length b
  line-length = omega (arith, length-append a (9 ∷ b))

abbrev pub line_in : List ℕ → List ℕ → List ℕ
line_in a b = 83 ∷ (9 ∷ (a ++ (9 ∷ b)))

module _ {s : List ℕ} {at : ℕ} {row : Row} (h : Shape s at row) where
  pub shape-lines : lines_of (drop at s) ≡ line_in h.a h.b ∷ lines_of h.rest
  shape-lines =
      let sa = short-number h.a row.setpoint h.setpoint h.setpoint_ranged in
      let sb = short-number h.b row.actual h.actual h.actual_ranged in
      ap lines_of (h.form ∙ one_line (83 ∷ []) (h.a ∷ (h.b ∷ [])) (10 ∷ h.rest)) ∙ joined-first (a-letter 83 (omega arith)) (a-field sa (a-field sb no_field)) h.rest

  pub shape-says : line_of (line_in h.a h.b) ≡ L.Sample (record { setpoint = row.setpoint; actual = row.actual })
  shape-says = sample-line h.a h.b row.setpoint row.actual h.setpoint h.actual h.setpoint_ranged h.actual_ranged

  pub shape-place : at + (length (line_in h.a h.b) + 1) ≡ row.to
  shape-place = omega (arith, line-length h.a h.b h.rest, h.place)

  pub shape-first : first_of at (lines_of (drop at s)) ≡ Some row
  unfolding first_of
  shape-first = rw (shape-lines, shape-says, h.setpoint_ranged, h.actual_ranged, shape-place)

-- and the other way round: a line that says a sample in range has that shape
-- what passed a test
kind-end : (b : Bool) → cond b K.End K.Unknown ≡ K.Sample → ⊥
kind-end true e = let q : ◌≡◌ {A = ℕ} 0 1 = cc in omega arith
kind-end false e = let q : ◌≡◌ {A = ℕ} 0 1 = cc in omega arith

kind-letter : (f : List ℕ) → kind_of f ≡ K.Sample → f ≡ 83 ∷ []
unfolding kind_of
kind-letter f e =
    letter f 83
    (by_first (is_letter 83 f) K.Sample _ K.Sample (kind-end (is_letter 69 f))
    (by-second (is_letter 67 f) K.Contract _ K.Sample (λ q. (let z : ◌≡◌ {A = ℕ} 0 1 = cc in omega arith))
    (by-second (is_letter 66 f) K.Setpoint _ K.Sample (λ q. (let z : ◌≡◌ {A = ℕ} 0 1 = cc in omega arith))
    (by-second (is_letter 79 f) K.Bounds _ K.Sample (λ q. (let z : ◌≡◌ {A = ℕ} 0 1 = cc in omega arith))
    (by-second (is_letter 68 f) K.Header _ K.Sample (λ q. (let z : ◌≡◌ {A = ℕ} 0 1 = cc in omega arith)) e))))).0

-- no other kind of line says a sample
no_header : (d : Option Date) (i : Option ℤ) (l : Option Lot) (q : Option ℤ) (s : Sample) → header_fields d i l q ≡ L.Sample s → ⊥
no_header (Some d) (Some i) (Some l) (Some q) s e = let z : ◌≡◌ {A = ℕ} 0 1 = cc in omega arith
no_header (Some d) (Some i) (Some l) None s e = let z : ◌≡◌ {A = ℕ} 0 1 = cc in omega arith
no_header (Some d) (Some i) None q s e = let z : ◌≡◌ {A = ℕ} 0 1 = cc in omega arith
no_header (Some d) None l q s e = let z : ◌≡◌ {A = ℕ} 0 1 = cc in omega arith
no_header None i l q s e = let z : ◌≡◌ {A = ℕ} 0 1 = cc in omega arith

no-bounds : (o u : Option ℤ) (s : Sample) → bounds_fields o u ≡ L.Sample s → ⊥
no-bounds (Some o) (Some u) s e = let z : ◌≡◌ {A = ℕ} 0 1 = cc in omega arith
no-bounds (Some o) None s e = let z : ◌≡◌ {A = ℕ} 0 1 = cc in omega arith
no-bounds None u s e = let z : ◌≡◌ {A = ℕ} 0 1 = cc in omega arith

no-setpoint : (b : Option ℤ) (s : Sample) → setpoint_fields b ≡ L.Sample s → ⊥
no-setpoint (Some b) s e = let z : ◌≡◌ {A = ℕ} 0 1 = cc in omega arith
no-setpoint None s e = let z : ◌≡◌ {A = ℕ} 0 1 = cc in omega arith

no-contract : (d : Option Direction) (a p : Option ℤ) (s : Sample) → contract_fields d a p ≡ L.Sample s → ⊥
no-contract (Some d) (Some a) (Some p) s e = let z : ◌≡◌ {A = ℕ} 0 1 = cc in omega arith
no-contract (Some d) (Some a) None s e = let z : ◌≡◌ {A = ℕ} 0 1 = cc in omega arith
no-contract (Some d) None p s e = let z : ◌≡◌ {A = ℕ} 0 1 = cc in omega arith
no-contract None a p s e = let z : ◌≡◌ {A = ℕ} 0 1 = cc in omega arith

malformed-none : (s : Sample) → L.Malformed ≡ L.Sample s → ⊥
malformed-none s e = let z : ◌≡◌ {A = ℕ} 0 1 = cc in omega arith

of_fields : (b : Bool) (l : Line) (s : Sample) → cond b l L.Malformed ≡ L.Sample s → (b ≡ true) × (l ≡ L.Sample s)
of_fields b l s e = by_first b l L.Malformed (L.Sample s) (malformed-none s) e

two : (x y : Option ℤ) (s : Sample) → sample_fields x y ≡ L.Sample s → (x ≡ Some s.setpoint) × (y ≡ Some s.actual)
two (Some x) (Some y) s e =
    let q : ◌≡◌ {A = Sample} (record { setpoint = x; actual = y }) s = cc in
    (ap (λ (t : Sample). Some t.setpoint) q, ap (λ (t : Sample). Some t.actual) q)
two (Some x) None s e = absurd (let z : ◌≡◌ {A = ℕ} 0 1 = cc in (omega arith))
two None y s e = absurd (let z : ◌≡◌ {A = ℕ} 0 1 = cc in (omega arith))

by-kind : (k : Kind) (fs : List (List ℕ)) (s : Sample) → by_kind k fs ≡ L.Sample s → (k ≡ K.Sample) × (sample_of fs ≡ L.Sample s)
unfolding header_of bounds_of setpoint_of contract_of end_of
by-kind K.Header fs s e =
    absurd
    (no_header (day_of (field_at 1 fs)) (number_of (field_at 2 fs)) (lot_of (field_at 3 fs)) (number_of (field_at 4 fs)) s
    (of_fields (eqb (length fs) 5) _ s e).1)
by-kind K.Bounds fs s e =
    absurd (no-bounds (long_number_of 11 (field_at 1 fs)) (long_number_of 11 (field_at 2 fs)) s (of_fields (eqb (length fs) 3) _ s e).1)
by-kind K.Setpoint fs s e = absurd (no-setpoint (number_of (field_at 1 fs)) s (of_fields (eqb (length fs) 2) _ s e).1)
by-kind K.Contract fs s e =
    absurd
    (no-contract (direction_of (field_at 1 fs)) (number_of (field_at 3 fs)) (number_of (field_at 4 fs)) s
    (of_fields (eqb (length fs) 5) _ s e).1)
by-kind K.Sample fs s e = (refl, e)
by-kind K.End fs s e = absurd (let q : L.End ≡ L.Sample s = (of_fields (eqb (length fs) 1) _ s e).1 in let z : ◌≡◌ {A = ℕ} 0 1 = cc in (omega arith))
by-kind K.Unknown fs s e = absurd (let z : ◌≡◌ {A = ℕ} 0 1 = cc in (omega arith))

-- what a sample line is
record Said (line : List ℕ) (s : Sample) : Type 0 where
  a : List ℕ
  b : List ℕ
  form : line ≡ 83 ∷ (9 ∷ (a ++ (9 ∷ b)))
  setpoint : number_of a ≡ Some s.setpoint
  actual : number_of b ≡ Some s.actual

said : (line : List ℕ) (s : Sample) → line_of line ≡ L.Sample s → Said line s
unfolding line_of sample_of
said line s e =
    let fs = fields line in
    let k = by-kind (kind_of (field_at 0 fs)) fs s (by-second (ltb 80 (length line)) L.Malformed _ (L.Sample s) (malformed-none s) e) in
    let m = of_fields (eqb (length fs) 3) _ s k.1 in
    let n = two (number_of (field_at 1 fs)) (number_of (field_at 2 fs)) s m.1 in
    let p : fields line ≡ (83 ∷ []) ∷ (field_at 1 fs ∷ (field_at 2 fs ∷ [])) = counted fs 3 m.0 ∙ ap (λ (f : List ℕ). f ∷ (field_at 1 fs ∷ (field_at 2 fs ∷ []))) (kind-letter (field_at 0 fs) k.0) in
    record { a = field_at 1 fs; b = field_at 2 fs; form = line-of line (83 ∷ []) _ p; setpoint = n.0; actual = n.1 }

record Ranged (to : ℕ) (l : Line) (row : Row) : Type 0 where
  sample : Sample
  says : l ≡ L.Sample sample
  is : row ≡ record { setpoint = sample.setpoint; actual = sample.actual; to = to }
  setpoint : power_in_range sample.setpoint ≡ true
  actual : power_in_range sample.actual ≡ true

in-range : (to : ℕ) (s : Sample) (row : Row) (b c : Bool) → power_in_range s.setpoint ≡ b → power_in_range s.actual ≡ c
    → cond (b && c) (Some (record { setpoint = s.setpoint; actual = s.actual; to = to })) None ≡ Some row → Ranged to (L.Sample s) row
in-range to s row true true p q e = record { sample = s; says = refl; is = cc; setpoint = p; actual = q }
in-range to s row true false p q e = absurd (let z : ◌≡◌ {A = ℕ} 0 1 = cc in (omega arith))
in-range to s row false c p q e = absurd (let z : ◌≡◌ {A = ℕ} 0 1 = cc in (omega arith))

ranged : (to : ℕ) (l : Line) (row : Row) → row_of to l ≡ Some row → Ranged to l row
ranged to (L.Sample s) row e = in-range to s row _ _ refl refl e
ranged to (L.Header h) row e = absurd (let z : ◌≡◌ {A = ℕ} 0 1 = cc in (omega arith))
ranged to (L.Bounds bounds) row e = absurd (let z : ◌≡◌ {A = ℕ} 0 1 = cc in (omega arith))
ranged to (L.Setpoint setpoint) row e = absurd (let z : ◌≡◌ {A = ℕ} 0 1 = cc in (omega arith))
ranged to (L.Contract c) row e = absurd (let z : ◌≡◌ {A = ℕ} 0 1 = cc in (omega arith))
ranged to L.End row e = absurd (let z : ◌≡◌ {A = ℕ} 0 1 = cc in (omega arith))
ranged to L.Malformed row e = absurd (let z : ◌≡◌ {A = ℕ} 0 1 = cc in (omega arith))

shaped : (s : List ℕ) (at : ℕ) (row : Row) (ls : List (List ℕ)) → lines_of (drop at s) ≡ ls → first_of at ls ≡ Some row → Shape s at row
unfolding first_of
shaped s at row [] q e = absurd (let z : ◌≡◌ {A = ℕ} 0 1 = cc in (omega arith))
shaped s at row (line ∷ lines) q e =
    let r = ranged (at + (length line + 1)) (line_of line) row e in
    let w = said line r.sample r.says in
    let p = leads (written (drop at s)) line lines q in
    let to : row.to ≡ at + (length line + 1) = ap (λ (t : Row). t.to) r.is in
    record {
      a = w.a;
      b = w.b;
      rest = p.rest;
      form = p.form ∙ ap (λ (l : List ℕ). l ++ (10 ∷ p.rest)) w.form ∙ sym (one_line (83 ∷ []) (w.a ∷ (w.b ∷ [])) (10 ∷ p.rest));
      setpoint = w.setpoint ∙ ap (λ (t : Row). Some t.setpoint) (sym r.is);
      actual = w.actual ∙ ap (λ (t : Row). Some t.actual) (sym r.is);
      setpoint_ranged = ap (λ (t : Row). power_in_range t.setpoint) r.is ∙ r.setpoint;
      actual_ranged = ap (λ (t : Row). power_in_range t.actual) r.is ∙ r.actual;
      place = omega (arith, line-length w.a w.b p.rest, ap length w.form);
    }

pub first-shape : (s : List ℕ) (at : ℕ) (row : Row) → first_of at (lines_of (drop at s)) ≡ Some row → Shape s at row
first-shape s at row e = shaped s at row (lines_of (drop at s)) refl e

pub no-shape : (s : List ℕ) (at : ℕ) → ((row : Row) → Shape s at row → ⊥) → None ≡ first_of at (lines_of (drop at s))
no-shape s at never = by_cases (first_of at (lines_of (drop at s))) refl
  where
    by_cases : (f : Option Row) → first_of at (lines_of (drop at s)) ≡ f → None ≡ first_of at (lines_of (drop at s))
    by_cases (Some row) e = absurd (never row (first-shape s at row e))
    by_cases None e = sym e
