-- The line of a recorded sample in range by its bytes, and by what the line says.
use Rattle.std.specs.Prelude.{ℤ, Option, Some, None}
use Rattle.std.proofs.Common.{◌≡◌, ℕ, ◌+◌, ◌≤◌, Bool, true, false, cond, ◌&&◌, eqb, ltb, List, [], ◌∷◌, ◌++◌, length, drop, sym, refl, ap, ◌∙◌, arith, length-append, le-ltb}
use Rattle.vocabulary.specs.Sample.{power_in_range}
use Rattle.vocabulary.specs.declared.recorded.Recorded.{Recorded}
use Rattle.fields.specs.Fields.{fields, field_at}
use Rattle.fields.proofs.FieldLaws.{counted}
use Rattle.fields.specs.Numbers.{number_of}
use Rattle.lines.specs.Lines.{lines_of}
use Rattle.lines.proofs.LineLaws.{written}
use Rattle.reading.specs.Line.{is_letter, header_of, end_of}
use Rattle.reading.specs.Entry.{entry_kind_of, entry_by, recorded_fields, recorded_of, by_entry_kind, entry_of}
use Rattle.reading.specs.declared.Line.{Line}
use Rattle.reading.specs.declared.Line.TheVariants as L
use Rattle.reading.specs.declared.entry.Entry.{Entry}
use Rattle.reading.specs.declared.entry.Entry.TheVariants as E
use Rattle.reading.specs.declared.entry.EntryKind.{EntryKind}
use Rattle.reading.specs.declared.entry.EntryKind.TheVariants as K
use Rattle.samples.specs.Recorded.{recorded_by, first_recorded}
use Rattle.samples.specs.declared.recorded.RecordedLine.{RecordedLine}
use Rattle.samples.proofs.Joined.{Shorts, no_field, a-field, short-number, a-letter, joined, spread, joined-fields}
use Rattle.samples.proofs.Joined.{joined-few, joined-first, one_line, line-of, by_first, by-second, leads, letter}

abbrev pub recorded_in : List ℕ → List ℕ → List ℕ → List ℕ
recorded_in c a b = joined (71 ∷ []) (c ∷ (a ∷ (b ∷ [])))

-- G, a tab, a second, a tab, a power, a tab, a power and an LF at a place
pub record Noted (s : List ℕ) (at : ℕ) (e : RecordedLine) : Type 0 where
  pub c : List ℕ
  pub a : List ℕ
  pub b : List ℕ
  pub rest : List ℕ
  pub form : drop at s ≡ spread (71 ∷ []) (c ∷ (a ∷ (b ∷ []))) (10 ∷ rest)
  pub second : number_of c ≡ Some e.recorded.second
  pub setpoint : number_of a ≡ Some e.recorded.sample.setpoint
  pub actual : number_of b ≡ Some e.recorded.sample.actual
  pub second-ranged : power_in_range e.recorded.second ≡ true
  pub setpoint_ranged : power_in_range e.recorded.sample.setpoint ≡ true
  pub actual_ranged : power_in_range e.recorded.sample.actual ≡ true
  pub place : e.to ≡ at + 2 + length c + 1 + length a + 1 + length b + 1

recorded-length : (c a b : List ℕ) → length (recorded_in c a b) ≡ 4 + length c + length a + length b
recorded-length c a b = omega (arith, length-append c (9 ∷ (a ++ (9 ∷ b))), length-append a (9 ∷ b))

module _ {s : List ℕ} {at : ℕ} {e : RecordedLine} (h : Noted s at e) where
  short-fields : Shorts (h.c ∷ (h.a ∷ (h.b ∷ [])))
  short-fields =
      a-field (short-number h.c _ h.second h.second-ranged)
      (a-field (short-number h.a _ h.setpoint h.setpoint_ranged) (a-field (short-number h.b _ h.actual h.actual_ranged) no_field))

  noted-lines : lines_of (drop at s) ≡ recorded_in h.c h.a h.b ∷ lines_of h.rest
  noted-lines = ap lines_of (h.form ∙ one_line (71 ∷ []) (h.c ∷ (h.a ∷ (h.b ∷ []))) (10 ∷ h.rest)) ∙ joined-first (a-letter 71 (omega arith)) short-fields h.rest

  noted-says : entry_of (recorded_in h.c h.a h.b) ≡ E.Recorded e.recorded
  unfolding entry_of field_at entry_kind_of is_letter recorded_of
  noted-says =
      let few : length (recorded_in h.c h.a h.b) ≤ 80 = omega (arith, joined-few (71 ∷ []) short-fields) in
      rw (le-ltb _ _ few, joined-fields (a-letter 71 (omega arith)) short-fields, h.second, h.setpoint, h.actual)

  noted-place : at + (length (recorded_in h.c h.a h.b) + 1) ≡ e.to
  noted-place = omega (arith, recorded-length h.c h.a h.b, h.place)

  pub noted-first : first_recorded at (lines_of (drop at s)) ≡ Some e
  unfolding first_recorded
  noted-first = rw (noted-lines, noted-says, h.second-ranged, h.setpoint_ranged, h.actual_ranged, noted-place)

-- and the other way round: a line that says a recorded sample in range has that shape
malformed-none : (r : Recorded) → E.Malformed ≡ E.Recorded r → ⊥
malformed-none r e = let z : ◌≡◌ {A = ℕ} 0 1 = cc in omega arith

no-recorded : (l : Line) (r : Recorded) → entry_by l ≡ E.Recorded r → ⊥
no-recorded (L.Header h) r e = let z : ◌≡◌ {A = ℕ} 0 1 = cc in omega arith
no-recorded (L.Bounds bounds) r e = malformed-none r e
no-recorded (L.Setpoint setpoint) r e = malformed-none r e
no-recorded (L.Contract c) r e = malformed-none r e
no-recorded (L.Sample s) r e = malformed-none r e
no-recorded L.End r e = let z : ◌≡◌ {A = ℕ} 0 1 = cc in omega arith
no-recorded L.Malformed r e = malformed-none r e

by-kind : (k : EntryKind) (fs : List (List ℕ)) (r : Recorded) → by_entry_kind k fs ≡ E.Recorded r → (k ≡ K.Recorded) × (recorded_of fs ≡ E.Recorded r)
by-kind K.Header fs r e = absurd (no-recorded (header_of fs) r e)
by-kind K.Recorded fs r e = (refl, e)
by-kind K.End fs r e = absurd (no-recorded (end_of fs) r e)
by-kind K.Unknown fs r e = absurd (malformed-none r e)

other-kind : (b c : Bool) → cond b K.Header (cond c K.End K.Unknown) ≡ K.Recorded → ⊥
other-kind true c e = let z : ◌≡◌ {A = ℕ} 0 1 = cc in omega arith
other-kind false true e = let z : ◌≡◌ {A = ℕ} 0 1 = cc in omega arith
other-kind false false e = let z : ◌≡◌ {A = ℕ} 0 1 = cc in omega arith

kind-letter : (f : List ℕ) → entry_kind_of f ≡ K.Recorded → f ≡ 71 ∷ []
unfolding entry_kind_of
kind-letter f e = letter f 71 (by_first (is_letter 71 f) K.Recorded _ K.Recorded (other-kind (is_letter 68 f) (is_letter 69 f)) e).0

record Three (x y z : Option ℤ) (r : Recorded) : Type 0 where
  second : x ≡ Some r.second
  setpoint : y ≡ Some r.sample.setpoint
  actual : z ≡ Some r.sample.actual

three : (x y z : Option ℤ) (r : Recorded) → recorded_fields x y z ≡ E.Recorded r → Three x y z r
three (Some x) (Some y) (Some z) r e =
    let q : ◌≡◌ {A = Recorded} (record { second = x; sample = record { setpoint = y; actual = z } }) r = cc in
    record {
      second = ap (λ (t : Recorded). Some t.second) q;
      setpoint = ap (λ (t : Recorded). Some t.sample.setpoint) q;
      actual = ap (λ (t : Recorded). Some t.sample.actual) q;
    }
three (Some x) (Some y) None r e = absurd (malformed-none r e)
three (Some x) None z r e = absurd (malformed-none r e)
three None y z r e = absurd (malformed-none r e)

record Said (line : List ℕ) (r : Recorded) : Type 0 where
  c : List ℕ
  a : List ℕ
  b : List ℕ
  form : line ≡ recorded_in c a b
  says : Three (number_of c) (number_of a) (number_of b) r

said : (line : List ℕ) (r : Recorded) → entry_of line ≡ E.Recorded r → Said line r
unfolding entry_of recorded_of
said line r e =
    let fs = fields line in
    let k = by-kind (entry_kind_of (field_at 0 fs)) fs r (by-second (ltb 80 (length line)) E.Malformed _ (E.Recorded r) (malformed-none r) e) in
    let m = by_first (eqb (length fs) 4) _ E.Malformed (E.Recorded r) (malformed-none r) k.1 in
    let rest : List (List ℕ) = field_at 1 fs ∷ (field_at 2 fs ∷ (field_at 3 fs ∷ [])) in
    let p : fields line ≡ (71 ∷ []) ∷ rest = counted fs 4 m.0 ∙ ap (λ (f : List ℕ). f ∷ rest) (kind-letter (field_at 0 fs) k.0) in
    record {
      c = field_at 1 fs;
      a = field_at 2 fs;
      b = field_at 3 fs;
      form = line-of line (71 ∷ []) _ p;
      says = three (number_of (field_at 1 fs)) (number_of (field_at 2 fs)) (number_of (field_at 3 fs)) r m.1;
    }

pub record Ranged (to : ℕ) (l : Entry) (e : RecordedLine) : Type 0 where
  pub says : l ≡ E.Recorded e.recorded
  pub place : e.to ≡ to
  pub second : power_in_range e.recorded.second ≡ true
  pub setpoint : power_in_range e.recorded.sample.setpoint ≡ true
  pub actual : power_in_range e.recorded.sample.actual ≡ true

in-range : (to : ℕ) (r : Recorded) (e : RecordedLine) (b c d : Bool) → power_in_range r.second ≡ b → power_in_range r.sample.setpoint ≡ c → power_in_range r.sample.actual ≡ d
    → cond (b && (c && d)) (Some (record { recorded = r; to = to })) None ≡ Some e → Ranged to (E.Recorded r) e
in-range to r e true true true p q s k =
    let is : ◌≡◌ {A = RecordedLine} (record { recorded = r; to = to }) e = cc in
    record {
      says = ap (λ (t : RecordedLine). E.Recorded t.recorded) is;
      place = ap (λ (t : RecordedLine). t.to) (sym is);
      second = ap (λ (t : RecordedLine). power_in_range t.recorded.second) (sym is) ∙ p;
      setpoint = ap (λ (t : RecordedLine). power_in_range t.recorded.sample.setpoint) (sym is) ∙ q;
      actual = ap (λ (t : RecordedLine). power_in_range t.recorded.sample.actual) (sym is) ∙ s;
    }
in-range to r e true true false p q s k = absurd (let z : ◌≡◌ {A = ℕ} 0 1 = cc in (omega arith))
in-range to r e true false d p q s k = absurd (let z : ◌≡◌ {A = ℕ} 0 1 = cc in (omega arith))
in-range to r e false c d p q s k = absurd (let z : ◌≡◌ {A = ℕ} 0 1 = cc in (omega arith))

pub ranged : (to : ℕ) (l : Entry) (e : RecordedLine) → recorded_by to l ≡ Some e → Ranged to l e
ranged to (E.Recorded r) e k = in-range to r e _ _ _ refl refl refl k
ranged to (E.Header h) e k = absurd (let z : ◌≡◌ {A = ℕ} 0 1 = cc in (omega arith))
ranged to E.End e k = absurd (let z : ◌≡◌ {A = ℕ} 0 1 = cc in (omega arith))
ranged to E.Malformed e k = absurd (let z : ◌≡◌ {A = ℕ} 0 1 = cc in (omega arith))

noted : (s : List ℕ) (at : ℕ) (e : RecordedLine) (ls : List (List ℕ)) → lines_of (drop at s) ≡ ls → first_recorded at ls ≡ Some e → Noted s at e
unfolding first_recorded
noted s at e [] q k = absurd (let z : ◌≡◌ {A = ℕ} 0 1 = cc in (omega arith))
noted s at e (line ∷ lines) q k =
    let r = ranged (at + (length line + 1)) (entry_of line) e k in
    let w = said line e.recorded r.says in
    let p = leads (written (drop at s)) line lines q in
    record {
      c = w.c;
      a = w.a;
      b = w.b;
      rest = p.rest;
      form = p.form ∙ ap (λ (l : List ℕ). l ++ (10 ∷ p.rest)) w.form ∙ sym (one_line (71 ∷ []) (w.c ∷ (w.a ∷ (w.b ∷ []))) (10 ∷ p.rest));
      second = w.says.second;
      setpoint = w.says.setpoint;
      actual = w.says.actual;
      second-ranged = r.second;
      setpoint_ranged = r.setpoint;
      actual_ranged = r.actual;
      place = omega (arith, r.place, recorded-length w.c w.a w.b, ap length w.form);
    }

pub no-noted : (s : List ℕ) (at : ℕ) → ((e : RecordedLine) → Noted s at e → ⊥) → None ≡ first_recorded at (lines_of (drop at s))
no-noted s at never = by_cases (first_recorded at (lines_of (drop at s))) refl
  where
    by_cases : (f : Option RecordedLine) → first_recorded at (lines_of (drop at s)) ≡ f → None ≡ first_recorded at (lines_of (drop at s))
    by_cases (Some e) k = absurd (never e (noted s at e (lines_of (drop at s)) refl k))
    by_cases None k = sym k
