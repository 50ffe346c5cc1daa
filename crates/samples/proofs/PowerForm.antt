-- A power, from the number of no sign that is found there, or after its minus.
use Rattle.std.specs.Prelude.{Option, Some, None}
use Rattle.std.proofs.Common.{◌≡◌, ℕ, zero, suc, ◌+◌, ◌-◌, ◌<◌, ◌≤◌, Bool, true, false, ◌&&◌, List, [], ◌∷◌, ◌++◌, length, get_or, drop, ℤ, pos, negsuc, ◌-ℤ◌, neg_ℤ, sym, refl, ap, ◌∙◌, add-one, arith, drop-cons, to_z-of_z, w32, SFits, to_z, of_z, eq-eqb, ne_eqb, le-leb, leb-true}
use lib.IntN.{+ℤ_idl}
use mir.Facts.{to_z_pos}
use Rattle.arithmetic.specs.Whole.{within_of}
use Rattle.fields.specs.Numbers.{unsigned_of, negative, plain, long_number_of, number_of}
use Rattle.vocabulary.specs.Sample.{power_in_range}
use Rattle.samples.specs.Scan.{Standing, Unsigned, Names, Written, Powered}
use Rattle.samples.specs.declared.Digits.{Digits}
use Rattle.samples.specs.declared.Found.{Found}
use Rattle.samples.proofs.UnsignedForm.{plain_of, at_first_lem}

-- the range, by the magnitude
pub range-pos : (n : ℕ) → power_in_range (pos n) ≡ true → n ≤ 2000000
unfolding power_in_range within_of
range-pos n e = leb-true _ _ e

pub pos-range : (n : ℕ) → n ≤ 2000000 → power_in_range (pos n) ≡ true
unfolding power_in_range within_of
pos-range n h = le-leb _ _ h

both_true : (b : Bool) → b && true ≡ true → b ≡ true
both_true true e = refl
both_true false e = e

pub range-neg : (n : ℕ) → power_in_range (negsuc n) ≡ true → n ≤ 1999999
unfolding power_in_range within_of
range-neg n e = leb-true _ _ (both_true _ e)

pub neg-range : (n : ℕ) → n ≤ 1999999 → power_in_range (negsuc n) ≡ true
unfolding power_in_range within_of
neg-range n h = rw (le-leb _ _ h)

-- a number by its first byte
module _ (x : ℕ) (xs : List ℕ) where
  pub number-plain : (x ≡ 45 → ⊥) → number_of (x ∷ xs) ≡ plain (unsigned_of 9 (x ∷ xs))
  unfolding number_of long_number_of
  number-plain n = rw (ne_eqb x 45 n)

  pub number-minus : x ≡ 45 → number_of (x ∷ xs) ≡ negative (unsigned_of 9 xs)
  unfolding number_of long_number_of
  number-minus e = rw (eq-eqb x 45 e)

pub no_number : (z : ℤ) → number_of [] ≡ Some z → ⊥
unfolding number_of long_number_of
no_number z e = let q : ◌≡◌ {A = ℕ} 0 1 = cc in omega arith

pub record Above (d : Option ℕ) (z : ℤ) : Type 0 where
  pub n : ℕ
  pub says : d ≡ Some n
  pub is : z ≡ pos n

pub above : (d : Option ℕ) (z : ℤ) → plain d ≡ Some z → Above d z
above (Some n) z e = record { n = n; says = refl; is = cc }
above None z e = absurd (let q : ◌≡◌ {A = ℕ} 0 1 = cc in (omega arith))

pub record Below (d : Option ℕ) (z : ℤ) : Type 0 where
  pub n : ℕ
  pub says : d ≡ Some (suc n)
  pub is : z ≡ negsuc n

pub below : (d : Option ℕ) (z : ℤ) → negative d ≡ Some z → Below d z
below (Some zero) z e = absurd (let q : ◌≡◌ {A = ℕ} 0 1 = cc in (omega arith))
below (Some (suc n)) z e = record { n = n; says = refl; is = cc }
below None z e = absurd (let q : ◌≡◌ {A = ℕ} 0 1 = cc in (omega arith))

says_plain : (bytes : List ℕ) (n : ℕ) → (get_or bytes 0 0 ≡ 45 → ⊥) → unsigned_of 9 bytes ≡ Some n → number_of bytes ≡ Some (pos n)
says_plain [] n first e = absurd ((plain_of [] n e).some refl)
says_plain (x ∷ xs) n first e = number-plain x xs first ∙ rw e

-- no minus stands there
module _ {s : List ℕ} {from : ℕ} (other : get_or s from 0 ≡ 45 → ⊥) where
  -- a power that stands there is a number of no sign
  pub record Same (z : ℤ) (a : Written s from z) : Type 0 where
    pub n : ℕ
    pub is : z ≡ pos n
    pub stands : Standing s from n
    pub bytes : stands.bytes ≡ a.bytes

  stood : (z : ℤ) (a : Written s from z) (bytes : List ℕ) → a.bytes ≡ bytes → Same z a
  stood z a [] q = absurd (no_number z (sym (ap number_of q) ∙ a.says))
  stood z a (x ∷ xs) q =
      let first : x ≡ 45 → ⊥ = λ e. other (at_first_lem s from (x ∷ xs) (a.byte ∷ a.rest) (a.form ∙ ap (λ (l : List ℕ). l ++ (a.byte ∷ a.rest)) q) (λ l. omega arith) ∙ e) in
      let m : Above (unsigned_of 9 (x ∷ xs)) z = above _ z (sym (number-plain x xs first) ∙ sym (ap number_of q) ∙ a.says) in
      record {
        n = m.n;
        is = m.is;
        stands = record {
          bytes = a.bytes;
          byte = a.byte;
          rest = a.rest;
          form = a.form;
          stop = a.stop;
          says = ap (unsigned_of 9) q ∙ m.says;
          small = range-pos m.n (sym (ap power_in_range m.is) ∙ a.ranged);
        };
        bytes = refl;
      }

  same : {z : ℤ} (a : Written s from z) → Same z a
  same {z} a = stood z a a.bytes refl

  pub plain-none : Unsigned s from None → Powered s from None
  plain-none u =
      record {
        sound = λ f e. absurd (let q : ◌≡◌ {A = ℕ} 0 1 = cc in (omega arith));
        complete = λ {z} a. absurd (let e = u.complete (same a).stands in let q : ◌≡◌ {A = ℕ} 0 1 = cc in (omega arith));
      }

  pub plain-some : {d : Digits} {v : ℤ} → v ≡ pos d.value → Unsigned s from (Some d) → Powered s from (Some (record { value = v; to = d.to }))
  plain-some {d} {v} e u =
      let sp = u.sound d refl in
      let first : (get_or sp.bytes 0 0 ≡ 45 → ⊥) = λ k. other (at_first_lem s from sp.bytes sp.rest sp.form (plain_of sp.bytes d.value sp.says).some ∙ k) in
      let names : Names s from (record { value = v; to = d.to }) =
      record {
        bytes = sp.bytes;
        rest = sp.rest;
        form = sp.form;
        says = says_plain sp.bytes d.value first sp.says ∙ ap Some (sym e);
        ranged = ap power_in_range e ∙ pos-range d.value sp.small;
        place = sp.place;
        stands = sp.stands;
      } in
      record {
        sound = λ f k. (let q : ◌≡◌ {A = Found} (record { value = v; to = d.to }) f = cc in rw (← q) names);
        complete = λ {z} a.
            (let m = same a in
            let q : d ≡ record { value = m.n; to = from + length m.stands.bytes } = (let k = u.complete m.stands in cc) in
            let x : v ≡ z = e ∙ ap (λ (t : Digits). pos t.value) q ∙ sym m.is in
            let y : d.to ≡ from + length a.bytes = ap (λ (t : Digits). t.to) q ∙ ap (λ (l : List ℕ). from + length l) m.bytes in
            rw (x, y));
      }

-- after a minus
pub behind : (s : List ℕ) (from byte : ℕ) → from < length s → get_or s from 0 ≡ byte → drop from s ≡ byte ∷ drop (from + 1) s
behind s from byte within e = drop-cons s from 0 within ∙ rw (e, add-one from)

module _ {s : List ℕ} {from : ℕ} (within : from < length s) (sign : get_or s from 0 ≡ 45) where
  pub record Behind (z : ℤ) (a : Written s from z) : Type 0 where
    pub n : ℕ
    pub is : z ≡ negsuc n
    pub stands : Standing s (from + 1) (suc n)
    pub bytes : suc (length stands.bytes) ≡ length a.bytes

  stood-behind : (z : ℤ) (a : Written s from z) (bytes : List ℕ) → a.bytes ≡ bytes → Behind z a
  stood-behind z a [] q = absurd (no_number z (sym (ap number_of q) ∙ a.says))
  stood-behind z a (x ∷ xs) q =
      let form : 45 ∷ drop (from + 1) s ≡ x ∷ (xs ++ (a.byte ∷ a.rest)) = sym (behind s from 45 within sign) ∙ a.form ∙ ap (λ (l : List ℕ). l ++ (a.byte ∷ a.rest)) q in
      let first : 45 ≡ x = cc in
      let m : Below (unsigned_of 9 xs) z = below _ z (sym (number-minus x xs (sym first)) ∙ sym (ap number_of q) ∙ a.says) in
      let r = range-neg m.n (sym (ap power_in_range m.is) ∙ a.ranged) in
      record {
        n = m.n;
        is = m.is;
        stands = record { bytes = xs; byte = a.byte; rest = a.rest; form = cc; stop = a.stop; says = m.says; small = omega arith };
        bytes = sym (ap length q);
      }

  after : {z : ℤ} (a : Written s from z) → Behind z a
  after {z} a = stood-behind z a a.bytes refl

  pub minus-none : Unsigned s (from + 1) None → Powered s from None
  minus-none u =
      record {
        sound = λ f e. absurd (let q : ◌≡◌ {A = ℕ} 0 1 = cc in (omega arith));
        complete = λ {z} a. absurd (let e = u.complete (after a).stands in let q : ◌≡◌ {A = ℕ} 0 1 = cc in (omega arith));
      }

  value-behind : {d : Digits} {z : ℤ} → Unsigned s (from + 1) (Some d) → (a : Written s from z) → d ≡ record { value = suc (after a).n; to = from + 1 + length (after a).stands.bytes }
  value-behind u a = let k = u.complete (after a).stands in cc

  pub minus-zero : {d : Digits} → d.value ≡ 0 → Unsigned s (from + 1) (Some d) → Powered s from None
  minus-zero {d} h u =
      record {
        sound = λ f e. absurd (let q : ◌≡◌ {A = ℕ} 0 1 = cc in (omega arith));
        complete = λ {z} a. absurd (let q : d.value ≡ suc (after a).n = ap (λ (t : Digits). t.value) (value-behind u a) in (omega arith));
      }

  pub minus-some : {d : Digits} {v : ℤ} (n : ℕ) → d.value ≡ suc n → v ≡ negsuc n → Unsigned s (from + 1) (Some d) → Powered s from (Some (record { value = v; to = d.to }))
  minus-some {d} {v} n h e u =
      let sp = u.sound d refl in
      let names : Names s from (record { value = v; to = d.to }) =
      record {
        bytes = 45 ∷ sp.bytes;
        rest = sp.rest;
        form = behind s from 45 within sign ∙ ap (λ (l : List ℕ). 45 ∷ l) sp.form;
        says = number-minus 45 sp.bytes refl ∙ rw (sp.says, h, e);
        ranged = ap power_in_range e ∙ neg-range n (let l = sp.small in omega arith);
        place = omega (arith, sp.place);
        stands = sp.stands;
      } in
      record {
        sound = λ f k. (let q : ◌≡◌ {A = Found} (record { value = v; to = d.to }) f = cc in rw (← q) names);
        complete = λ {z} a.
            (let m = after a in
            let q = value-behind u a in
            let x : n ≡ m.n = (let j : d.value ≡ suc m.n = ap (λ (t : Digits). t.value) q in omega arith) in
            let y : v ≡ z = e ∙ ap negsuc x ∙ sym m.is in
            let w : d.to ≡ from + length a.bytes = (let j : d.to ≡ from + 1 + length m.stands.bytes = ap (λ (t : Digits). t.to) q in omega (arith, m.bytes)) in
            rw (y, w));
      }

-- the code's numbers: a small value as a signed one, and 0 less it
module _ {v : ℕ} (h : v ≤ 2000000) where
  pub value-is : to_z w32 v ≡ pos v
  value-is = to_z_pos w32 (omega arith)

  pub value-fits : SFits w32 (pos v)
  value-fits = record { sfits = omega arith }

  less : pos 0 -ℤ to_z w32 v ≡ neg_ℤ (pos v)
  less = ap (λ (z : ℤ). pos 0 -ℤ z) value-is ∙ +ℤ_idl (neg_ℤ (pos v))

neg-fits : (v : ℕ) → v ≤ 2000000 → SFits w32 (neg_ℤ (pos v))
neg-fits zero h = record { sfits = omega arith }
neg-fits (suc v) h = record { sfits = omega arith }

module _ {v : ℕ} (h : v ≤ 2000000) where
  pub less-fits : SFits w32 (pos 0 -ℤ to_z w32 v)
  less-fits = rw (less h) (neg-fits v h)

  pub less-is : to_z w32 (of_z w32 (pos 0 -ℤ to_z w32 v)) ≡ neg_ℤ (pos v)
  less-is = to_z-of_z less-fits ∙ less h

pub neg-suc : (v : ℕ) → (v ≡ 0 → ⊥) → v ≡ suc (v - 1)
neg-suc v n = omega arith

pub neg_of : (v : ℕ) → (v ≡ 0 → ⊥) → neg_ℤ (pos v) ≡ negsuc (v - 1)
neg_of zero n = absurd (n refl)
neg_of (suc v) n = let e : suc v - 1 ≡ v = omega arith in rw e

pub range-fits : (z : ℤ) → power_in_range z ≡ true → SFits w32 z
range-fits (pos n) e = let h = range-pos n e in record { sfits = omega arith }
range-fits (negsuc n) e = let h = range-neg n e in record { sfits = omega arith }

pub range_back : (z : ℤ) → power_in_range z ≡ true → to_z w32 (of_z w32 z) ≡ z
range_back z e = to_z-of_z (range-fits z e)
