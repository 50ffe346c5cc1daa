-- A stretch, one sample after the other.
use Rattle.std.specs.Prelude.{Option, Some, None}
use Rattle.std.proofs.Common.{◌≡◌, ℕ, zero, suc, ◌+◌, ◌-◌, ◌<◌, ◌≤◌, Bool, true, false, cond, ◌&&◌, List, [], ◌∷◌, length, take, set, ℤ, sym, refl, ap, ◌∙◌, add-one, arith, drop_of_length-le}
use lib.Seq.{sets}
use Rattle.vocabulary.specs.declared.sample.Sample.{Sample}
use Rattle.vocabulary.specs.Sample.{power_in_range}
use Rattle.lines.specs.Lines.{lines_of}
use Rattle.reading.specs.Line.{line_of}
use Rattle.reading.specs.declared.Line.{Line}
use Rattle.reading.specs.declared.Line.TheVariants as L
use Rattle.samples.specs.Stretch.{on_sample, front_samples, bytes_of, setpoints_of, actuals_of, lines_at, Ran}
use Rattle.samples.specs.Scan.{row_of, first_of}
use Rattle.samples.specs.declared.Row.{Row}
use Rattle.samples.proofs.CutLaws.{no_lines_lem}
use Rattle.samples.proofs.LineForm.{Shape, line_in, shape-lines, shape-says, shape-place}
use Rattle.samples.proofs.LineScan.{from_next}

-- no samples where there is no line, or none is wanted, or the first line says another thing
pub no_line_lem : (n : ℕ) → front_samples n [] ≡ []
unfolding front_samples
no_line_lem zero = refl
no_line_lem (suc n) = refl

pub none-wanted : (n : ℕ) (ls : List (List ℕ)) → n ≡ 0 → front_samples n ls ≡ []
unfolding front_samples
none-wanted zero ls e = refl
none-wanted (suc n) ls e = absurd (omega arith)

passed_over : (to : ℕ) (s : Sample) (more : List Sample) (b : Bool)
    → cond {A = Option Row} b (Some (record { setpoint = s.setpoint; actual = s.actual; to = to })) None ≡ None → cond b (s ∷ more) [] ≡ []
passed_over to s more true e = absurd (let z : ◌≡◌ {A = ℕ} 0 1 = cc in (omega arith))
passed_over to s more false e = refl

other-line : (to : ℕ) (l : Line) (more : List Sample) → row_of to l ≡ None → on_sample l more ≡ []
other-line to (L.Sample s) more e = passed_over to s more (power_in_range s.setpoint && power_in_range s.actual) e
other-line to (L.Header h) more e = refl
other-line to (L.Bounds bounds) more e = refl
other-line to (L.Setpoint setpoint) more e = refl
other-line to (L.Contract c) more e = refl
other-line to L.End more e = refl
other-line to L.Malformed more e = refl

pub other-first : (at n : ℕ) (ls : List (List ℕ)) → first_of at ls ≡ None → front_samples n ls ≡ []
unfolding front_samples first_of
other-first at zero ls e = refl
other-first at (suc n) [] e = refl
other-first at (suc n) (line ∷ ls) e = other-line (at + (length line + 1)) (line_of line) (front_samples n ls) e

-- where a loop stands: with so many samples stored, and so many bytes read, what is left gives what the whole gives
pub record Left (s : List ℕ) (until : ℕ) (sp ac : List ℤ) (k i : ℕ) (sp' ac' : List ℤ) (k' i' : ℕ) : Type 0 where
  pub setpoints : sets sp k (setpoints_of (front_samples (until - k) (lines_at s i))) ≡ sets sp' k' (setpoints_of (front_samples (until - k') (lines_at s i')))
  pub actuals : sets ac k (actuals_of (front_samples (until - k) (lines_at s i))) ≡ sets ac' k' (actuals_of (front_samples (until - k') (lines_at s i')))
  pub count : k + length (front_samples (until - k) (lines_at s i)) ≡ k' + length (front_samples (until - k') (lines_at s i'))
  pub bytes : i + bytes_of (take (length (front_samples (until - k) (lines_at s i))) (lines_at s i)) ≡ i' + bytes_of (take (length (front_samples (until - k') (lines_at s i'))) (lines_at s i'))

pub at_once : (s : List ℕ) (until : ℕ) (sp ac : List ℤ) (k i : ℕ) → Left s until sp ac k i sp ac k i
at_once s until sp ac k i = record { setpoints = refl; actuals = refl; count = refl; bytes = refl }

-- one sample
module _ {s : List ℕ} {i : ℕ} {row : Row} (h : Shape s i row) where
  line : List ℕ
  line = line_in h.a h.b

  then_lines : lines_at s i ≡ line_in h.a h.b ∷ lines_at s row.to
  then_lines = shape-lines h ∙ ap (λ (t : List ℕ). line_in h.a h.b ∷ lines_of t) (sym (from_next h))

  then-samples : (n : ℕ) → front_samples (suc n) (lines_at s i) ≡ record { setpoint = row.setpoint; actual = row.actual } ∷ front_samples n (lines_at s row.to)
  unfolding front_samples
  then-samples n = rw (then_lines, shape-says h, h.setpoint_ranged, h.actual_ranged)

  module _ {until k : ℕ} (sp ac : List ℤ) (room : k < until) where
    rest : until - k ≡ suc (until - (k + 1))
    rest = omega arith

    now-samples : front_samples (until - k) (lines_at s i) ≡ record { setpoint = row.setpoint; actual = row.actual } ∷ front_samples (until - (k + 1)) (lines_at s row.to)
    now-samples = ap (λ (n : ℕ). front_samples n (lines_at s i)) rest ∙ then-samples (until - (k + 1))

    pub sampled : Left s until sp ac k i (set sp k row.setpoint) (set ac k row.actual) (k + 1) row.to
    unfolding setpoints_of actuals_of bytes_of
    sampled =
        record {
          setpoints = rw (now-samples, add-one k);
          actuals = rw (now-samples, add-one k);
          count = rw now-samples (omega arith);
          bytes = rw (now-samples, then_lines) (omega (arith, shape-place h));
        }

pub left-then : {s : List ℕ} {until : ℕ} {sp ac : List ℤ} {k i : ℕ} {sp' ac' : List ℤ} {k' i' : ℕ} {sp'' ac'' : List ℤ} {k'' i'' : ℕ}
    → Left s until sp ac k i sp' ac' k' i' → Left s until sp' ac' k' i' sp'' ac'' k'' i'' → Left s until sp ac k i sp'' ac'' k'' i''
left-then f g =
    record {
      setpoints = f.setpoints ∙ g.setpoints;
      actuals = f.actuals ∙ g.actuals;
      count = f.count ∙ g.count;
      bytes = f.bytes ∙ g.bytes;
    }

-- and none any more
pub finished : {s : List ℕ} {until : ℕ} {sp ac : List ℤ} {k i : ℕ} {sp' ac' : List ℤ} {k' i' : ℕ}
    → Left s until sp ac k i sp' ac' k' i' → front_samples (until - k') (lines_at s i') ≡ []
    → Ran s i k until sp ac sp' ac' (record { samples = k' - k; bytes = i' - i })
unfolding setpoints_of actuals_of bytes_of
finished f e =
    record {
      samples = (let q = rw e at f.count in omega arith);
      bytes = (let q = rw e at f.bytes in omega arith);
      setpoints = sym (rw e at f.setpoints);
      actuals = sym (rw e at f.actuals);
    }

pub no-line-past : (n : ℕ) (s : List ℕ) (i : ℕ) → length s ≤ i → front_samples n (lines_at s i) ≡ []
no-line-past n s i h = ap (λ (t : List ℕ). front_samples n (lines_of t)) (drop_of_length-le s h) ∙ ap (front_samples n) no_lines_lem ∙ no_line_lem n

-- as many as were wanted
pub all-stored : {s : List ℕ} {until : ℕ} {sp ac : List ℤ} {k i : ℕ} {sp' ac' : List ℤ} {k' i' : ℕ}
    → Left s until sp ac k i sp' ac' k' i' → k' ≡ until → Ran s i k until sp ac sp' ac' (record { samples = until - k; bytes = i' - i })
all-stored {k = k} f e =
    let all = finished f (none-wanted _ _ (omega arith)) in
    record {
      samples = ap (λ (n : ℕ). n - k) (sym e) ∙ all.samples;
      bytes = all.bytes;
      setpoints = all.setpoints;
      actuals = all.actuals;
    }
