-- A power that a byte ends, as it is scanned: what is found is one, and no second stands there.
use Rattle.std.specs.Prelude.{Some, None}
use Rattle.std.proofs.Common.{◌≡◌, ℕ, ◌+◌, ◌<◌, ◌≤◌, List, [], ◌∷◌, ◌++◌, length, get_or, drop, sym, refl, ap, ◌∙◌, add-zero, arith, length-append, length-drop, get_or-drop, drop-drop}
use lib.Seq.{drop-append_seam}
use Rattle.fields.specs.Numbers.{number_of}
use Rattle.samples.specs.Scan.{Ended, Written, Powered, Field, Fielded}
use Rattle.samples.specs.declared.Found.{Found}
use Rattle.samples.proofs.Places.{next}
use Rattle.samples.proofs.DigitScan.{below-digits}
use Rattle.samples.proofs.PowerForm.{behind}
use Rattle.samples.proofs.Joined.{Solid, empty, more, short-number}

-- past the first bytes of what stands at a place
pub beyond : (s : List ℕ) (n : ℕ) (p q : List ℕ) → drop n s ≡ p ++ q → drop (n + length p) s ≡ q
beyond s n p q e = sym (drop-drop (length p) n s) ∙ ap (drop (length p)) e ∙ drop-append_seam p q

pub head_at : (s : List ℕ) (n x : ℕ) (q : List ℕ) → drop n s ≡ x ∷ q → get_or s n 0 ≡ x
head_at s n x q e = ap (λ (k : ℕ). get_or s k 0) (sym (add-zero n)) ∙ sym (get_or-drop n s 0 0) ∙ ap (λ (l : List ℕ). get_or l 0 0) e

-- what follows a power that is found
pub then-byte : {s : List ℕ} {from : ℕ} {f : Found} (p : Powered s from (Some f)) (byte : ℕ) → get_or s f.to 0 ≡ byte → (p.sound f refl).rest ≡ byte ∷ drop (f.to + 1) s
then-byte {s} {from} {f} p byte e =
    let m = p.sound f refl in
    sym (ap (λ (k : ℕ). drop k s) m.place ∙ beyond s from m.bytes m.rest m.form) ∙ behind s f.to byte m.stands.within e

-- what stands after a field, and that there is such a place
module _ {s : List ℕ} {from byte : ℕ} {f : Found} (h : Field s from byte f) where
  from_byte : drop (from + length h.bytes) s ≡ byte ∷ h.rest
  from_byte = beyond s from h.bytes _ h.form

  pub byte-there : get_or s f.to 0 ≡ byte
  byte-there = ap (λ (k : ℕ). get_or s k 0) h.place ∙ head_at s _ byte _ from_byte

  pub after-field : drop (f.to + 1) s ≡ h.rest
  after-field = ap (λ (k : ℕ). drop (k + 1) s) h.place ∙ beyond s (from + length h.bytes) (byte ∷ []) _ from_byte

  pub field-within : f.to < length s
  field-within = omega (arith, h.place, length-drop from s, ap length h.form, length-append h.bytes (byte ∷ h.rest))

  pub field-few : length h.bytes ≤ 8
  field-few = (short-number h.bytes f.value h.says h.ranged).few

pub after-tab : {s : List ℕ} {from i : ℕ} {f : Found} → Ended s i → Field s from 9 f → Ended s (f.to + 1)
after-tab e h = next (record { within = field-within h; ended = e.ended }) (λ k. let t = byte-there h in (omega arith))

-- a number has neither tabs nor LFs, so the first of them ends it
no_other : {a b : List ℕ} (byte : ℕ) (p q : List ℕ) → byte ≤ 10 → Solid a → Solid b → a ++ (byte ∷ p) ≡ b ++ (byte ∷ q) → a ≡ b
no_other byte p q h empty empty e = refl
no_other byte p q h empty (more {x} {xs} l s) e = absurd (let z : byte ≡ x = cc in (omega arith))
no_other byte p q h (more {x} {xs} l s) empty e = absurd (let z : x ≡ byte = cc in (omega arith))
no_other byte p q h (more {x} {xs} l s) (more {x = y} {xs = ys} m t) e =
    let first : x ≡ y = cc in
    let then : xs ++ (byte ∷ p) ≡ ys ++ (byte ∷ q) = cc in
    let rest = no_other byte p q h s t then in
    λ i. first i ∷ rest i

-- at a byte up to the LF
module _ {s : List ℕ} {from byte : ℕ} (low : byte ≤ 10) where
  pub same-field : {f g : Found} → Field s from byte f → Field s from byte g → f ≡ g
  same-field {f} {g} h k =
      let a = short-number h.bytes f.value h.says h.ranged in
      let b = short-number k.bytes g.value k.says k.ranged in
      let bytes : h.bytes ≡ k.bytes = no_other byte _ _ low a.solid b.solid (sym h.form ∙ k.form) in
      let value : f.value ≡ g.value = (let e : Some f.value ≡ Some g.value = sym h.says ∙ ap number_of bytes ∙ k.says in cc) in
      let to : f.to ≡ g.to = h.place ∙ ap (λ (l : List ℕ). from + length l) bytes ∙ sym k.place in
      λ i. record { value = value i; to = to i }

  pub the_field : {f : Found} → Field s from byte f → Fielded s from byte (Some f)
  the_field {f} h =
      record {
        sound = λ g e. (let k : f ≡ g = cc in rw (← k) h);
        complete = λ {f = g} k. ap Some (same-field h k);
      }

  other : ((f : Found) → Field s from byte f → ⊥) → Fielded s from byte None
  other never =
      record {
        sound = λ f e. absurd (let z : ◌≡◌ {A = ℕ} 0 1 = cc in (omega arith));
        complete = λ {f} h. absurd (never f h);
      }

  abbrev written-there : {f : Found} → Field s from byte f → Written s from f.value
  written-there h =
      record {
        bytes = h.bytes;
        byte = byte;
        rest = h.rest;
        form = h.form;
        stop = (let l : byte < 48 = omega arith in below-digits l);
        says = h.says;
        ranged = h.ranged;
      }

  pub no_power : Powered s from None → Fielded s from byte None
  no_power p = other (λ f h. let e = p.complete (written-there h) in let z : ◌≡◌ {A = ℕ} 0 1 = cc in omega arith)

  module _ {f : Found} (p : Powered s from (Some f)) where
    pub no_end : (get_or s f.to 0 ≡ byte → ⊥) → Fielded s from byte None
    no_end n =
        other (λ g h.
        let e = p.complete (written-there h) in
        let k : f ≡ record { value = g.value; to = from + length h.bytes } = cc in
        n (ap (λ (t : Found). get_or s t.to 0) k ∙ ap (λ (i : ℕ). get_or s i 0) (sym h.place) ∙ byte-there h))

    pub ended-field : get_or s f.to 0 ≡ byte → Fielded s from byte (Some f)
    ended-field e =
        let m = p.sound f refl in
        the_field
        (record {
          bytes = m.bytes;
          rest = drop (f.to + 1) s;
          form = m.form ∙ ap (λ (t : List ℕ). m.bytes ++ t) (then-byte p byte e);
          says = m.says;
          ranged = m.ranged;
          place = m.place;
        })
