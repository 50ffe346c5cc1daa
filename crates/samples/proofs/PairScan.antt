-- Two powers as they are scanned: a setpoint before a tab, and then an actual before an LF, or no two in range stand there.
use Rattle.std.specs.Prelude.{Option, Some, None}
use Rattle.std.proofs.Common.{◌≡◌, ℕ, ◌+◌, ◌≤◌, List, [], ◌∷◌, ◌++◌, length, drop, ℤ, sym, refl, ap, ◌∙◌, arith, length-append, length-drop}
use Rattle.samples.specs.Scan.{Field, Fielded, Closes, Closed, Pair, Paired}
use Rattle.samples.specs.declared.Found.{Found}
use Rattle.samples.specs.declared.Row.{Row}
use Rattle.samples.proofs.FieldScan.{beyond, after-field, same-field}

-- what stands where
module _ {s : List ℕ} {from : ℕ} {row : Row} (h : Pair s from row) where
  from-tab : drop (from + length h.a) s ≡ 9 ∷ (h.b ++ (10 ∷ h.rest))
  from-tab = beyond s from h.a _ h.form

  from-actual : drop (from + length h.a + 1) s ≡ h.b ++ (10 ∷ h.rest)
  from-actual = beyond s (from + length h.a) (9 ∷ []) _ from-tab

  from_end : drop (from + length h.a + 1 + length h.b) s ≡ 10 ∷ h.rest
  from_end = beyond s (from + length h.a + 1) h.b _ from-actual

  pub from_next : drop row.to s ≡ h.rest
  from_next = ap (λ (k : ℕ). drop k s) h.place ∙ beyond s (from + length h.a + 1 + length h.b) (10 ∷ []) _ from_end

  pub pair-within : row.to ≤ length s
  pair-within =
      omega
      (arith, h.place, length-drop from s, ap length h.form, length-append h.a (9 ∷ (h.b ++ (10 ∷ h.rest))), length-append h.b (10 ∷ h.rest))

  pub pair-setpoint : Field s from 9 (record { value = row.setpoint; to = from + length h.a })
  pair-setpoint =
      record {
        bytes = h.a;
        rest = h.b ++ (10 ∷ h.rest);
        form = h.form;
        says = h.setpoint;
        ranged = h.setpoint_ranged;
        place = refl;
      }

  pair-actual : Closes s (from + length h.a) row.setpoint row
  pair-actual =
      record {
        end = from + length h.a + 1 + length h.b;
        setpoint = refl;
        actual = record {
          bytes = h.b;
          rest = h.rest;
          form = from-actual;
          says = h.actual;
          ranged = h.actual_ranged;
          place = refl;
        };
        place = h.place;
      }

-- the row of a setpoint
module _ {s : List ℕ} {tab : ℕ} {z : ℤ} where
  pub no-actual : Fielded s (tab + 1) 10 None → Closed s tab z None
  no-actual p =
      record {
        sound = λ row e. absurd (let q : ◌≡◌ {A = ℕ} 0 1 = cc in (omega arith));
        complete = λ {row} h. absurd (let e = p.complete h.actual in let q : ◌≡◌ {A = ℕ} 0 1 = cc in (omega arith));
      }

  pub a-row : {f : Found} → Fielded s (tab + 1) 10 (Some f) → Closed s tab z (Some (record { setpoint = z; actual = f.value; to = f.to + 1 }))
  a-row {f} p =
      let row : Row = record { setpoint = z; actual = f.value; to = f.to + 1 } in
      let closes : Closes s tab z row = record { end = f.to; setpoint = refl; actual = p.sound f refl; place = refl } in
      record {
        sound = λ r e. (let k : row ≡ r = cc in rw (← k) closes);
        complete = λ {row = r} h.
            (let q = p.complete h.actual in
            let e : f ≡ record { value = r.actual; to = h.end } = cc in
            let x : z ≡ r.setpoint = sym h.setpoint in
            let y : f.value ≡ r.actual = ap (λ (t : Found). t.value) e in
            let w : f.to + 1 ≡ r.to = ap (λ (t : Found). t.to + 1) e ∙ sym h.place in
            λ i. Some (record { setpoint = x i; actual = y i; to = w i }));
      }

-- and with it the two powers
module _ {s : List ℕ} {from : ℕ} where
  pub no-setpoint : Fielded s from 9 None → Paired s from None
  no-setpoint p =
      record {
        sound = λ row e. absurd (let z : ◌≡◌ {A = ℕ} 0 1 = cc in (omega arith));
        complete = λ {row} h. absurd (let e = p.complete (pair-setpoint h) in let z : ◌≡◌ {A = ℕ} 0 1 = cc in (omega arith));
      }

  module _ {f : Found} (h : Field s from 9 f) where
    paired : {row : Row} → Closes s f.to f.value row → Pair s from row
    paired {row} m =
        record {
          a = h.bytes;
          b = m.actual.bytes;
          rest = m.actual.rest;
          form = h.form ∙ ap (λ (t : List ℕ). h.bytes ++ (9 ∷ t)) (sym (after-field h) ∙ m.actual.form);
          setpoint = rw m.setpoint h.says;
          actual = m.actual.says;
          setpoint_ranged = rw m.setpoint h.ranged;
          actual_ranged = m.actual.ranged;
          place = omega (arith, m.place, m.actual.place, h.place);
        }

    pub by_row : {r : Option Row} → Closed s f.to f.value r → Paired s from r
    by_row q =
        record {
          sound = λ row e. paired (q.sound row e);
          complete = λ {row} k.
              (let e = same-field (omega arith) h (pair-setpoint k) in
              let x : f.to ≡ from + length k.a = ap (λ (t : Found). t.to) e in
              let y : f.value ≡ row.setpoint = ap (λ (t : Found). t.value) e in
              q.complete (rw (x, y) (pair-actual k)));
        }
