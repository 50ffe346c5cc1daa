-- A number of no sign in the range of powers, from its digits as they are scanned.
use Rattle.std.specs.Prelude.{Option, Some, None}
use Rattle.std.proofs.Common.{◌≡◌, ℕ, ◌+◌, ◌<◌, ◌≤◌, Bool, true, false, cond, eqb, ltb, List, [], ◌∷◌, ◌++◌, length, get_or, drop, sym, refl, ap, ◌∙◌, add-zero, arith, get_or-drop, le-ltb, eq-eqb, ne_eqb, eqb-true}
use native.Mathlib.Decide.{ℕ_discrete}
use borrow.Author.Tests.{eqb-false}
use Rattle.fields.specs.Numbers.{value_from, digits_of, unsigned_of}
use Rattle.samples.specs.Scan.{digits_from, Counted, Spells, Standing, Unsigned}
use Rattle.samples.specs.declared.Digits.{Digits}
use Rattle.samples.proofs.DigitScan.{Spelled, spelled, scanned, seven}

-- what has a value passed the test before it
passed : (b : Bool) (d : Option ℕ) (w : ℕ) → cond b None d ≡ Some w → (b ≡ false) × (d ≡ Some w)
passed true d w e = absurd (let q : ◌≡◌ {A = ℕ} 0 1 = cc in (omega arith))
passed false d w e = (refl, e)

either : (b c : Bool) (d : Option ℕ) (w : ℕ) → cond b d (cond c None d) ≡ Some w → (c ≡ true → b ≡ true) × (d ≡ Some w)
either true c d w e = ((λ z. refl), e)
either false true d w e = absurd (let q : ◌≡◌ {A = ℕ} 0 1 = cc in (omega arith))
either false false d w e = ((λ z. z), e)

-- what a number of no sign is, by its bytes
pub record Plain (bytes : List ℕ) (n : ℕ) : Type 0 where
  pub some : length bytes ≡ 0 → ⊥
  pub says : value_from 0 bytes ≡ Some n
  pub zero-alone : get_or bytes 0 0 ≡ 48 → length bytes ≡ 1

pub plain_of : (bytes : List ℕ) (n : ℕ) → unsigned_of 9 bytes ≡ Some n → Plain bytes n
unfolding unsigned_of digits_of
plain_of bytes n e =
    let p = passed (eqb (length bytes) 0) _ n e in
    let q = passed (ltb 9 (length bytes)) _ n p.1 in
    let r = passed (ltb 18 (length bytes)) _ n q.1 in
    let v = either (eqb (length bytes) 1) (eqb (get_or bytes 0 0) 48) (value_from 0 bytes) n r.1 in
    record {
      some = eqb-false _ _ p.0;
      says = v.1;
      zero-alone = λ z. eqb-true _ _ (v.0 (eq-eqb _ _ z));
    }

same : (b : Bool) (d : Option ℕ) → cond b d d ≡ d
same true d = refl
same false d = refl

pub of_plain : (bytes : List ℕ) (n : ℕ) → Plain bytes n → length bytes ≤ 9 → unsigned_of 9 bytes ≡ Some n
unfolding unsigned_of digits_of
of_plain bytes n p short =
    let long : length bytes ≤ 18 = omega arith in
    elim (ℕ_discrete (get_or bytes 0 0) 48) [
      | yes z ↦ rw (ne_eqb _ _ p.some, le-ltb _ _ short, le-ltb _ _ long, eq-eqb _ _ (p.zero-alone z)) p.says
      | no z ↦ rw (ne_eqb _ _ p.some, le-ltb _ _ short, le-ltb _ _ long, ne_eqb _ _ z) (same (eqb (length bytes) 1) (value_from 0 bytes) ∙ p.says)
    ]

-- a power has few enough digits
pub short : (bytes : List ℕ) (n : ℕ) → Plain bytes n → n ≤ 2000000 → length bytes ≤ 7
short [] n p small = omega arith
short (x ∷ xs) n p small =
    elim (ℕ_discrete x 48) [
      | yes z ↦ omega (arith, p.zero-alone z)
      | no z ↦ omega (arith, seven x n xs z p.says small)
    ]

first_byte : (bytes rest : List ℕ) → (length bytes ≡ 0 → ⊥) → get_or (bytes ++ rest) 0 0 ≡ get_or bytes 0 0
first_byte [] rest n = absurd (n refl)
first_byte (x ∷ xs) rest n = refl

-- the first byte there
pub at_first_lem : (s : List ℕ) (from : ℕ) (bytes rest : List ℕ) → drop from s ≡ bytes ++ rest → (length bytes ≡ 0 → ⊥) → get_or s from 0 ≡ get_or bytes 0 0
at_first_lem s from bytes rest form n =
    ap (λ (k : ℕ). get_or s k 0) (sym (add-zero from)) ∙ sym (get_or-drop from s 0 0) ∙ ap (λ (l : List ℕ). get_or l 0 0) form ∙ first_byte bytes rest n

module _ {s : List ℕ} {from : ℕ} {read : Digits} (counted : Counted s from read) where
  -- the digits of a number that stands there are all that was scanned
  found : {n : ℕ} (a : Standing s from n) → read ≡ record { value = n; to = from + length a.bytes }
  found {n} a =
      let p = plain_of a.bytes n a.says in
      counted.is ∙ ap (digits_from 7 from 0) a.form ∙ scanned 7 a.bytes a.rest from 0 a.byte n a.stop p.says (short a.bytes n p a.small)

  found-to : {n : ℕ} (a : Standing s from n) → read.to ≡ from + length a.bytes
  found-to a = ap (λ (r : Digits). r.to) (found a)

  found-value : {n : ℕ} → Standing s from n → read.value ≡ n
  found-value a = ap (λ (r : Digits). r.value) (found a)

  -- so where a test fails, there is none
  nothing : ((n : ℕ) → Standing s from n → ⊥) → Unsigned s from None
  nothing none =
      record {
        sound = λ d e. absurd (let q : ◌≡◌ {A = ℕ} 0 1 = cc in (omega arith));
        complete = λ {n} a. absurd (none n a);
      }

  pub no_digit : read.to ≡ from → Unsigned s from None
  no_digit h = nothing (λ n a. (plain_of a.bytes n a.says).some (let q = found-to a in (omega arith)))

  pub too_large : 2000000 < read.value → Unsigned s from None
  too_large h = nothing (λ n a. let q = found-value a in let l = a.small in (omega arith))

  pub zero-first : get_or s from 0 ≡ 48 → (read.to ≡ from + 1 → ⊥) → Unsigned s from None
  zero-first z h =
      nothing (λ n a.
      let p = plain_of a.bytes n a.says in
      let l = p.zero-alone (sym (at_first_lem s from a.bytes (a.byte ∷ a.rest) a.form p.some) ∙ z) in
      h (found-to a ∙ ap (λ (k : ℕ). from + k) l))

  -- and where all hold, what was scanned is one
  pub in-form : (read.to ≡ from → ⊥) → read.value ≤ 2000000 → (get_or s from 0 ≡ 48 → read.to ≡ from + 1) → Unsigned s from (Some read)
  in-form n small z =
      let sp : Spelled (drop from s) from 0 read = rw counted.is (spelled 7 (drop from s) from 0) in
      let some : (length sp.bytes ≡ 0 → ⊥) = λ l. n (sp.place ∙ rw (l, add-zero from)) in
      let p : Plain sp.bytes read.value = record {
        some = some;
        says = sp.says;
        zero-alone = λ y. (let k = z (at_first_lem s from sp.bytes sp.rest sp.form some ∙ y) in omega (arith, sp.place));
      } in
      let sound : Spells s from read =
      record {
        bytes = sp.bytes;
        rest = sp.rest;
        form = sp.form;
        says = of_plain sp.bytes read.value p (omega (arith, short sp.bytes read.value p small));
        small = small;
        place = sp.place;
        stands = counted.stands;
      } in
      record {
        sound = λ d e. (let q : read ≡ d = cc in rw (← q) sound);
        complete = λ {n} a. ap Some (found a);
      }
