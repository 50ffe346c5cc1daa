-- The front of a sample line as it is scanned: a setpoint that stands as on the line before, or one that is read.
use Rattle.std.specs.Prelude.{Some, None}
use Rattle.std.proofs.Common.{◌≡◌, ℕ, ◌+◌, ◌-◌, ◌*◌, ◌/◌, ◌^◌, ◌<◌, ◌≤◌, Bool, true, false, cond, leb, List, ◌∷◌, ◌++◌, length, get_or, take, drop, ℤ, sym, refl, ap, ◌∙◌, arith, length-drop, take-append-drop, length-take-le, get_or-drop, get_or-take, ext_get_or, le-leb, leb-true}
use lib.Seq.{take-append-add, append_snoc}
use borrow.Author.Tests.{lt-leb}
use Rattle.samples.specs.Scan.{Ended, Field, Fielded}
use Rattle.samples.specs.Front.{packed, Packed, width_in, no_front, Kept, Same, Heads, Fronted}
use Rattle.samples.specs.declared.Found.{Found}
use Rattle.samples.specs.declared.Front.{Front}
use Rattle.samples.proofs.Places.{skip}
use Rattle.samples.proofs.FieldScan.{field-within, the_field}
use Rattle.samples.proofs.WordLaws.{two, packed-high, same_bytes_lem}

-- THE SAME BYTES SAY THE SAME: a field whose bytes, with the one that ends it, stand at another place
module _ {s : List ℕ} {p byte : ℕ} {f : Found} (h : Field s p byte f) (from : ℕ) (room : from + length h.bytes < length s)
    (alike : (j : ℕ) → j ≤ length h.bytes → get_or s (from + j) 0 ≡ get_or s (p + j) 0) where
  copied : take (length h.bytes + 1) (drop from s) ≡ take (length h.bytes + 1) (drop p s)
  copied =
      let n = length h.bytes + 1 in
      let a : length (take n (drop from s)) ≡ n = length-take-le n (drop from s) (omega (arith, length-drop from s)) in
      let b : length (take n (drop p s)) ≡ n = length-take-le n (drop p s) (omega (arith, length-drop p s, field-within h, h.place)) in
      ext_get_or 0 _ _ (a ∙ sym b) (λ i l.
      let few : i < n = omega arith in
      get_or-take n (drop from s) i 0 few ∙ get_or-drop from s i 0 ∙ alike i (omega arith) ∙ sym (get_or-take n (drop p s) i 0 few ∙ get_or-drop p s i 0))

  pub again : Field s from byte (record { value = f.value; to = from + length h.bytes })
  again =
      let n = length h.bytes + 1 in
      record {
        bytes = h.bytes;
        rest = drop n (drop from s);
        form =
            sym (take-append-drop n (drop from s))
            ∙ ap (λ (t : List ℕ). t ++ drop n (drop from s)) (copied ∙ ap (take n) h.form ∙ take-append-add h.bytes (byte ∷ h.rest) 1)
            ∙ append_snoc h.bytes byte (drop n (drop from s));
        says = h.says;
        ranged = h.ranged;
        place = refl;
      }

-- THE WIDTH: where it is less than all bytes, eight of them hold the setpoint with the tab behind it
within_all : (a b : Bool) (x all : ℕ) → cond a (cond b x all) all < all → (a ≡ true) × (b ≡ true) × (cond a (cond b x all) all ≡ x)
within_all true true x all l = (refl, refl, refl)
within_all true false x all l = absurd (omega arith)
within_all false b x all l = absurd (omega arith)

pub width-held : (all from tab : ℕ) → width_in all from tab < all → (7 ≤ tab) × (tab - from ≤ 7) × (width_in all from tab ≡ tab - from)
unfolding width_in
width-held all from tab l =
    let p = within_all (leb 7 tab) (leb (tab - from) 7) (tab - from) all l in
    (leb-true _ _ p.0, leb-true _ _ p.1, p.2)

pub width-at-start : (all from tab : ℕ) → tab < 7 → width_in all from tab ≡ all
unfolding width_in
width-at-start all from tab a = rw (lt-leb _ _ a)

pub width-too-wide : (all from tab : ℕ) → 7 ≤ tab → 7 < tab - from → width_in all from tab ≡ all
unfolding width_in
width-too-wide all from tab a b = rw (le-leb _ _ a, lt-leb _ _ b)

pub width-of-held : (all from tab : ℕ) → 7 ≤ tab → tab - from ≤ 7 → width_in all from tab ≡ tab - from
unfolding width_in
width-of-held all from tab a b = rw (le-leb _ _ a, le-leb _ _ b)

-- so does a setpoint of up to seven bytes, if the eight bytes up to the tab behind it are those of the line before
module _ {s : List ℕ} {from : ℕ} {former : Front} where
  pub not_same : Same s from former false
  not_same =
      record {
        wide = λ e. absurd (let z : ◌≡◌ {A = ℕ} 0 1 = cc in (omega arith));
        width = λ e. absurd (let z : ◌≡◌ {A = ℕ} 0 1 = cc in (omega arith));
        few = λ e. absurd (let z : ◌≡◌ {A = ℕ} 0 1 = cc in (omega arith));
        field = λ e. absurd (let z : ◌≡◌ {A = ℕ} 0 1 = cc in (omega arith));
      }

  module _ (k : Kept s from former) (room : former.width < length s - from) where
    held : (7 ≤ former.tab) × (former.tab - former.from ≤ 7) × (former.width ≡ former.tab - former.from)
    held =
        let p = width-held (length s) former.from former.tab (rw (← k.width) (omega arith)) in
        (p.0, p.1, k.width ∙ p.2)

    pub comparable : (former.from ≤ former.tab) × (7 ≤ former.tab) × (former.width ≤ 7) × (former.width ≡ former.tab - former.from)
    comparable = (omega (arith, (k.field held.0).place), held.0, rw held.2 held.1, held.2)

    module _ {v w : ℕ} (here : Packed s (from + former.width - 7) 8 v) (there : Packed s (former.tab - 7) 8 w) where
      abbrev spare : ℕ
      spare = 8 * (7 - former.width)

      stands : v / 2 ^ spare ≡ w / 2 ^ spare → Field s from 9 (record { value = former.setpoint; to = from + (former.tab - former.from) })
      stands e =
          let h = k.field held.0 in
          let n = former.tab - former.from in
          let is : former.width ≡ n = held.2 in
          let few : n ≤ 7 = held.1 in
          let wide : length h.bytes ≡ n = omega (arith, h.place) in
          let eight : 7 - n + (n + 1) ≡ 8 = omega arith in
          let a : from + n - 7 + (7 - n) ≡ from = omega (arith, k.earlier, h.place, held.0) in
          let b : former.tab - 7 + (7 - n) ≡ former.from = omega (arith, h.place, held.0) in
          let new = rw (eight, a) at (packed-high (7 - n) (n + 1) s here.bytes (from + n - 7)) in
          let old = rw (eight, b) at (packed-high (7 - n) (n + 1) s here.bytes (former.tab - 7)) in
          let shifted : packed 8 s (from + n - 7) / 2 ^ (8 * (7 - n)) ≡ packed 8 s (former.tab - 7) / 2 ^ (8 * (7 - n)) = rw (← is, ← here.is, ← there.is) e in
          let words : packed (n + 1) s from ≡ packed (n + 1) s former.from = sym new ∙ shifted ∙ old in
          let alike : (j : ℕ) → j ≤ length h.bytes → get_or s (from + j) 0 ≡ get_or s (former.from + j) 0 = λ j l.
          same_bytes_lem (n + 1) s from former.from here.bytes words j (omega arith) in
          rw wide at (again h from (omega (arith, is)) alike)

      pub by-words : {r : Bool} → (r ≡ true → v / 2 ^ spare ≡ w / 2 ^ spare) → Same s from former r
      by-words alike =
          record {
            wide = λ e. comparable.0;
            width = λ e. comparable.3;
            few = λ e. (comparable.1, comparable.2);
            field = λ e. stands (alike e);
          }

-- the front of a line
module _ {s : List ℕ} {at : ℕ} where
  other : ((f : Front) → Heads s at f → ⊥) → Fronted s at None
  other never =
      record {
        sound = λ f e. absurd (let z : ◌≡◌ {A = ℕ} 0 1 = cc in (omega arith));
        complete = λ {f} h. absurd (never f h);
      }

  pub no-letter : (get_or s at 0 ≡ 83 → ⊥) → Fronted s at None
  no-letter n = other (λ f h. n h.letter)

  pub no-first-tab : (get_or s (at + 1) 0 ≡ 9 → ⊥) → Fronted s at None
  no-first-tab n = other (λ f h. n h.first_tab)

  pub no-setpoint : Fielded s (at + 2) 9 None → Fronted s at None
  no-setpoint p = other (λ f h. let e = p.complete h.field in let z : ◌≡◌ {A = ℕ} 0 1 = cc in omega arith)

  pub a-front : {f : Found} {n : ℕ} → get_or s at 0 ≡ 83 → get_or s (at + 1) 0 ≡ 9 → Fielded s (at + 2) 9 (Some f) → n ≡ width_in (length s) (at + 2) f.to
      → Fronted s at (Some (record { from = at + 2; setpoint = f.value; tab = f.to; width = n }))
  a-front {f} {n} letter tab p width =
      let front : Front = record { from = at + 2; setpoint = f.value; tab = f.to; width = n } in
      let heads : Heads s at front = record { letter = letter; first_tab = tab; from = refl; field = p.sound f refl; width = width } in
      record {
        sound = λ g e. (let k : front ≡ g = cc in rw (← k) heads);
        complete = λ {f = g} h.
            (let q = p.complete h.field in
            let e : f ≡ record { value = g.setpoint; to = g.tab } = cc in
            let x : at + 2 ≡ g.from = sym h.from in
            let y : f.value ≡ g.setpoint = ap (λ (t : Found). t.value) e in
            let w : f.to ≡ g.tab = ap (λ (t : Found). t.to) e in
            let v : n ≡ g.width = width ∙ ap (width_in (length s) (at + 2)) w ∙ sym h.width in
            λ i. Some (record { from = x i; setpoint = y i; tab = w i; width = v i }));
      }

  -- S and a tab are what they make as one number
  pub letter-and-tab : Packed s at 2 2387 → (get_or s at 0 ≡ 83) × (get_or s (at + 1) 0 ≡ 9)
  letter-and-tab p = (omega (arith, p.is, two s at, p.bytes at, p.bytes (at + 1)), omega (arith, p.is, two s at, p.bytes at, p.bytes (at + 1)))

  pub past-letter : Ended s at → Packed s at 2 2387 → Ended s (at + 2)
  past-letter e p =
      let q = letter-and-tab p in
      skip e (λ z. omega (arith, q.0)) (λ z. omega (arith, q.1))

  pub other-letter : {v : ℕ} → Packed s at 2 v → (v ≡ 2387 → ⊥) → Fronted s at None
  other-letter p n = other (λ f h. n (p.is ∙ two s at ∙ rw (h.letter, h.first_tab)))

  -- a setpoint that stands as on the line before
  pub same-front : {before behind n : ℕ} {z : ℤ} → get_or s at 0 ≡ 83 → get_or s (at + 1) 0 ≡ 9 → before ≤ at + 2 → before ≤ behind → n ≡ behind - before
      → (7 ≤ behind) × (n ≤ 7) → Field s (at + 2) 9 (record { value = z; to = at + 2 + (behind - before) })
      → Fronted s at (Some (record { from = at + 2; setpoint = z; tab = at + 2 + n; width = n }))
  same-front {n} letter tab earlier wide is few field =
      let seven : 7 ≤ at + 2 + n = omega (arith, few.0) in
      let width : at + 2 + n - (at + 2) ≡ n = omega arith in
      a-front letter tab (the_field (omega arith) (rw is field)) (sym (width-of-held (length s) (at + 2) (at + 2 + n) seven (rw width few.1) ∙ width))

-- WHAT IS KEPT of a line: nothing before the first one, and then its front
pub nothing-kept : {s : List ℕ} {from : ℕ} → Kept s from (no_front (length s))
unfolding width_in
nothing-kept = record { earlier = omega arith; field = λ l. absurd (omega arith); width = refl }

pub front_kept : {s : List ℕ} {at from : ℕ} {front : Front} → Heads s at front → front.from ≤ from → Kept s from front
front_kept h l = record { earlier = l; field = λ k. rw h.from h.field; width = rw h.from h.width }
