-- A line as it is scanned: each test that fails shows that no sample in range stands there.
use Rattle.std.specs.Prelude.{Option, Some, None}
use Rattle.std.proofs.Common.{◌≡◌, ℕ, ◌+◌, ◌-◌, ◌<◌, ◌≤◌, List, [], ◌∷◌, length, get_or, drop, sym, refl, ap, ◌∙◌, arith, drop_of_length-le, lt_of_not-le}
use native.Mathlib.Decide.{dec_le}
use Rattle.lines.specs.Lines.{lines_of}
use Rattle.samples.specs.Scan.{Ended, Closed, Pair, Paired, first_of}
use Rattle.samples.specs.Front.{width_in, Heads, Fronted, Sampled}
use Rattle.samples.specs.declared.Row.{Row}
use Rattle.samples.specs.declared.Front.{Front}
use Rattle.samples.proofs.CutLaws.{no_lines_lem}
use Rattle.samples.proofs.Places.{next}
use Rattle.samples.proofs.PowerForm.{behind}
use Rattle.samples.proofs.FieldScan.{beyond, head_at}
use Rattle.samples.proofs.FrontScan.{no-letter}
use Rattle.samples.proofs.PairScan.{from_next as after-pair, pair-within, pair-setpoint, by_row}
use Rattle.samples.proofs.LineForm.{Shape, shape-first, no-shape}

-- a letter and a tab, and what follows them
module _ (s : List ℕ) (at letter : ℕ) where
  pub letter-there : {q : List ℕ} → drop at s ≡ letter ∷ (9 ∷ q) → get_or s at 0 ≡ letter
  letter-there e = head_at s at letter _ e

  pub tab-there : {q : List ℕ} → drop at s ≡ letter ∷ (9 ∷ q) → get_or s (at + 1) 0 ≡ 9
  tab-there e = head_at s (at + 1) 9 _ (beyond s at (letter ∷ []) _ e)

  pub past-letter : {q : List ℕ} → drop at s ≡ letter ∷ (9 ∷ q) → drop (at + 2) s ≡ q
  past-letter e = beyond s at (letter ∷ (9 ∷ [])) _ e

  pub lettered : at + 1 < length s → get_or s at 0 ≡ letter → get_or s (at + 1) 0 ≡ 9 → drop at s ≡ letter ∷ (9 ∷ drop (at + 2) s)
  lettered l first tab =
      let two : at + 1 + 1 ≡ at + 2 = omega arith in
      behind s at letter (omega arith) first
      ∙ ap (λ (t : List ℕ). letter ∷ t) (behind s (at + 1) 9 l tab ∙ ap (λ (k : ℕ). 9 ∷ drop k s) two)

-- a sample's line has two powers after them
module _ {s : List ℕ} {at : ℕ} {row : Row} (h : Shape s at row) where
  pair-in : Pair s (at + 2) row
  pair-in =
      record {
        a = h.a;
        b = h.b;
        rest = h.rest;
        form = past-letter s at 83 h.form;
        setpoint = h.setpoint;
        actual = h.actual;
        setpoint_ranged = h.setpoint_ranged;
        actual_ranged = h.actual_ranged;
        place = h.place;
      }

  pub shape-within : row.to ≤ length s
  unfolding pair-in
  shape-within = pair-within pair-in

  heads-in : Heads s at (record { from = at + 2; setpoint = row.setpoint; tab = at + 2 + length h.a; width = width_in (length s) (at + 2) (at + 2 + length h.a) })
  unfolding pair-in
  heads-in =
      record {
        letter = letter-there s at 83 h.form;
        first_tab = tab-there s at 83 h.form;
        from = refl;
        field = pair-setpoint pair-in;
        width = refl;
      }

  pub from_next : drop row.to s ≡ h.rest
  unfolding pair-in
  from_next = after-pair pair-in

-- what the line that starts at a place is
pub record Began (s : List ℕ) (at : ℕ) (r : Option Row) : Type 0 where
  pub is : r ≡ first_of at (lines_of (drop at s))

module _ {s : List ℕ} {at : ℕ} where
  other : ((row : Row) → Shape s at row → ⊥) → Began s at None
  other never = record { is = no-shape s at never }

  pub no_front_lem : Fronted s at None → Began s at None
  no_front_lem p = other (λ row h. let e = p.complete (heads-in h) in let z : ◌≡◌ {A = ℕ} 0 1 = cc in omega arith)

  -- after S and a tab, what the two powers are, or are not
  by-pair : at + 1 < length s → get_or s at 0 ≡ 83 → get_or s (at + 1) 0 ≡ 9 → (r : Option Row) → Paired s (at + 2) r → Began s at r
  by-pair l letter tab None p = other (λ row h. let e = p.complete (pair-in h) in let z : ◌≡◌ {A = ℕ} 0 1 = cc in omega arith)
  by-pair l letter tab (Some row) p =
      let m = p.sound row refl in
      let shape : Shape s at row =
      record {
        a = m.a;
        b = m.b;
        rest = m.rest;
        form = lettered s at 83 l letter tab ∙ ap (λ (t : List ℕ). 83 ∷ (9 ∷ t)) m.form;
        setpoint = m.setpoint;
        actual = m.actual;
        setpoint_ranged = m.setpoint_ranged;
        actual_ranged = m.actual_ranged;
        place = m.place;
      } in
      record { is = sym (shape-first shape) }

  pub by_front : {front : Front} → Ended s at → Heads s at front → {r : Option Row} → Closed s front.tab front.setpoint r → Began s at r
  by_front e h {r} q = by-pair (next e (λ k. let l = h.letter in (omega arith))).within h.letter h.first_tab r (by_row h.field q)

-- what is said of a line, with its front
module _ {s : List ℕ} {at : ℕ} where
  pub no-sample : Began s at None → Sampled s at None
  no-sample b =
      record {
        is = sym b.is;
        front = λ f row e. absurd (let z : ◌≡◌ {A = ℕ} 0 1 = cc in (omega arith));
      }

  pub a-sample : {f : Front} {row : Row} → Heads s at f → Began s at (Some row) → Sampled s at (Some (f, row))
  a-sample {f} {row} h b =
      record {
        is = sym b.is;
        front = λ g r e. (let p : ◌≡◌ {A = Front × Row} (f, row) (g, r) = cc in let k : f ≡ g = ap (λ (q : Front × Row). q.0) p in rw (← k) h);
      }

  past-lines : length s ≤ at → Sampled s at None
  unfolding first_of
  past-lines h = no-sample (record { is = rw (drop_of_length-le s h, no_lines_lem) })

  -- what is left is at most the LF of the last line
  pub few-left : at ≤ length s → (at < length s → Ended s at) → length s - at < 2 → Sampled s at None
  few-left within ended h =
      elim (dec_le (length s) at) [
        | yes k ↦ past-lines k
        | no k ↦ (let e = ended (lt_of_not-le k) in let last : at ≡ length s - 1 = omega arith in
            no-sample (no_front_lem (no-letter (λ l. let z : get_or s at 0 ≡ 10 = rw last e.ended in (omega arith)))))
      ]
