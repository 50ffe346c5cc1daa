-- A line of a recording as it is scanned: each test that fails shows that no recorded sample in range stands there.
use Rattle.std.specs.Prelude.{Option, Some, None}
use Rattle.std.proofs.Common.{◌≡◌, ℕ, ◌+◌, ◌-◌, ◌<◌, ◌≤◌, Bool, true, false, cond, eqb, List, [], ◌∷◌, ◌++◌, length, get_or, drop, sym, refl, ap, ◌∙◌, arith, drop_of_length-le, eq-eqb, ne_eqb}
use Rattle.lines.specs.Lines.{lines_of}
use Rattle.samples.specs.Scan.{Written, Powered, Pair, Paired}
use Rattle.samples.specs.Recorded.{first_recorded, recorded_at}
use Rattle.samples.specs.declared.Found.{Found}
use Rattle.samples.specs.declared.Row.{Row}
use Rattle.samples.specs.declared.recorded.RecordedLine.{RecordedLine}
use Rattle.samples.proofs.CutLaws.{no_lines_lem}
use Rattle.samples.proofs.FieldScan.{beyond, head_at, then-byte}
use Rattle.samples.proofs.LineScan.{letter-there, tab-there, past-letter, lettered}
use Rattle.samples.proofs.RecordedForm.{Noted, noted-first, no-noted}

abbrev row_in : RecordedLine → Row
row_in e = record { setpoint = e.recorded.sample.setpoint; actual = e.recorded.sample.actual; to = e.to }

-- what stands where in the line of a recorded sample
module _ {s : List ℕ} {at : ℕ} {e : RecordedLine} (h : Noted s at e) where
  from_second : drop (at + 2) s ≡ h.c ++ (9 ∷ (h.a ++ (9 ∷ (h.b ++ (10 ∷ h.rest)))))
  from_second = past-letter s at 71 h.form

  abbrev second-there : Written s (at + 2) e.recorded.second
  second-there =
      record {
        bytes = h.c;
        byte = 9;
        rest = h.a ++ (9 ∷ (h.b ++ (10 ∷ h.rest)));
        form = from_second;
        stop = refl;
        says = h.second;
        ranged = h.second-ranged;
      }

  from-tab : drop (at + 2 + length h.c) s ≡ 9 ∷ (h.a ++ (9 ∷ (h.b ++ (10 ∷ h.rest))))
  from-tab = beyond s (at + 2) h.c _ from_second

  module _ {f : Found} (p : Powered s (at + 2) (Some f)) where
    found-tab : f.to ≡ at + 2 + length h.c
    found-tab = let k = p.complete second-there in let q : f ≡ record { value = e.recorded.second; to = at + 2 + length h.c } = cc in ap (λ (g : Found). g.to) q

    tab-found : get_or s f.to 0 ≡ 9
    tab-found = ap (λ (k : ℕ). get_or s k 0) found-tab ∙ head_at s _ 9 _ from-tab

    abbrev pair-there : Pair s (f.to + 1) (row_in e)
    pair-there =
        record {
          a = h.a;
          b = h.b;
          rest = h.rest;
          form = ap (λ (k : ℕ). drop (k + 1) s) found-tab ∙ beyond s (at + 2 + length h.c) (9 ∷ []) _ from-tab;
          setpoint = h.setpoint;
          actual = h.actual;
          setpoint_ranged = h.setpoint_ranged;
          actual_ranged = h.actual_ranged;
          place = h.place ∙ ap (λ (k : ℕ). k + 1 + length h.a + 1 + length h.b + 1) (sym found-tab);
        }

-- a line that is no recorded sample in range
module _ (s : List ℕ) (at : ℕ) where
  pub no-letter : (get_or s at 0 ≡ 71 → ⊥) → None ≡ first_recorded at (lines_of (drop at s))
  no-letter n = no-noted s at (λ e h. n (letter-there s at 71 h.form))

  pub no-first-tab : (get_or s (at + 1) 0 ≡ 9 → ⊥) → None ≡ first_recorded at (lines_of (drop at s))
  no-first-tab n = no-noted s at (λ e h. n (tab-there s at 71 h.form))

  pub no_second : Powered s (at + 2) None → None ≡ first_recorded at (lines_of (drop at s))
  no_second p = no-noted s at (λ e h. let k = p.complete (second-there h) in let z : ◌≡◌ {A = ℕ} 0 1 = cc in omega arith)

  module _ {f : Found} (p : Powered s (at + 2) (Some f)) where
    pub no-tab : (get_or s f.to 0 ≡ 9 → ⊥) → None ≡ first_recorded at (lines_of (drop at s))
    no-tab n = no-noted s at (λ e h. n (tab-found h p))

    pub no-pair : Paired s (f.to + 1) None → None ≡ first_recorded at (lines_of (drop at s))
    no-pair q = no-noted s at (λ e h. let k = q.complete (pair-there h p) in let z : ◌≡◌ {A = ℕ} 0 1 = cc in omega arith)

    -- and one that is
    pub a-recorded : {row : Row} → Paired s (f.to + 1) (Some row) → at + 1 < length s → get_or s at 0 ≡ 71 → get_or s (at + 1) 0 ≡ 9 → get_or s f.to 0 ≡ 9
        → Some (record { recorded = record { second = f.value; sample = record { setpoint = row.setpoint; actual = row.actual } }; to = row.to })
        ≡ first_recorded at (lines_of (drop at s))
    a-recorded {row} q l letter tab middle =
        let m = p.sound f refl in
        let n = q.sound row refl in
        let e : RecordedLine = record { recorded = record { second = f.value; sample = record { setpoint = row.setpoint; actual = row.actual } }; to = row.to } in
        let note : Noted s at e =
        record {
          c = m.bytes;
          a = n.a;
          b = n.b;
          rest = n.rest;
          form =
              lettered s at 71 l letter tab
              ∙ ap (λ (t : List ℕ). 71 ∷ (9 ∷ t))
              (m.form ∙ ap (λ (t : List ℕ). m.bytes ++ t) (then-byte p 9 middle ∙ ap (λ (t : List ℕ). 9 ∷ t) n.form));
          second = m.says;
          setpoint = n.setpoint;
          actual = n.actual;
          second-ranged = m.ranged;
          setpoint_ranged = n.setpoint_ranged;
          actual_ranged = n.actual_ranged;
          place = n.place ∙ ap (λ (k : ℕ). k + 1 + length n.a + 1 + length n.b + 1) m.place;
        } in
        sym (noted-first note)

-- complete lines, or not
pub ended-lines : (s : List ℕ) (at : ℕ) {r : Option RecordedLine} → get_or s (length s - 1) 0 ≡ 10 → r ≡ first_recorded at (lines_of (drop at s)) → r ≡ recorded_at s at
unfolding recorded_at
ended-lines s at e q = rw (eq-eqb _ _ e) q

pub open-end : (s : List ℕ) (at : ℕ) → (get_or s (length s - 1) 0 ≡ 10 → ⊥) → None ≡ recorded_at s at
unfolding recorded_at
open-end s at n = rw (ne_eqb _ _ n)

pub past_end : (s : List ℕ) (at : ℕ) → length s ≤ at → None ≡ recorded_at s at
unfolding recorded_at first_recorded
past_end s at h = sym (ap (λ (t : List ℕ). cond {A = Option RecordedLine} (eqb (get_or s (length s - 1) 0) 10) (first_recorded at (lines_of t)) None) (drop_of_length-le s h) ∙ rw no_lines_lem
    (neither (eqb (get_or s (length s - 1) 0) 10)))
  where
    neither : (b : Bool) → cond {A = Option RecordedLine} b None None ≡ None
    neither true = refl
    neither false = refl
