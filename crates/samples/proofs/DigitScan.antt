-- Digits as they are scanned, and the number that they spell.
use Rattle.std.specs.Prelude.{Some, None}
use Rattle.std.proofs.Common.{◌≡◌, ℕ, zero, suc, ◌+◌, ◌-◌, ◌*◌, ◌%◌, ◌^◌, ◌<◌, ◌≤◌, Bool, true, false, ◌&&◌, leb, ◌⊎◌, List, [], ◌∷◌, ◌++◌, length, get_or, drop, sym, refl, ap, ◌∙◌, inl, inr, ⊎_elim, add-zero, add-suc, eq-zero-or-pos, suc-add, pow-suc, lt_of_not-le, zero-add, add-one, arith, drop-cons, le-leb, leb-true}
use native.Mathlib.Decide.{dec_le}
use native.Mathlib.Nat.{pow-le-pow_right}
use borrow.Author.Tests.{lt-leb}
use Rattle.fields.specs.Numbers.{is_digit, value_from}
use Rattle.samples.specs.Scan.{Ended, digits_from, Counted}
use Rattle.samples.proofs.Places.{next}
use Rattle.samples.specs.declared.Digits.{Digits}

-- a byte is a digit or not
pub digit : {x : ℕ} → 48 ≤ x → x ≤ 57 → is_digit x ≡ true
digit a b = rw (le-leb _ _ a, le-leb _ _ b)

pub below-digits : {x : ℕ} → x < 48 → is_digit x ≡ false
below-digits a = rw (lt-leb _ _ a)

pub above-digits : {x : ℕ} → 57 < x → is_digit x ≡ false
above-digits {x} a = let b : 48 ≤ x = omega arith in rw (le-leb _ _ b, lt-leb _ _ a)

both : (a b : Bool) → a && b ≡ true → (a ≡ true) × (b ≡ true)
both true b e = (refl, e)
both false b e = absurd (let q : ◌≡◌ {A = ℕ} 0 1 = cc in (omega arith))

pub is_digit_lem : (x : ℕ) → is_digit x ≡ true → (48 ≤ x) × (x ≤ 57)
is_digit_lem x e = let q = both (leb 48 x) (leb x 57) e in (leb-true _ _ q.0, leb-true _ _ q.1)

-- a byte less that of 0, where a smaller one wraps
module _ {x : ℕ} (byte : x < 256) where
  abbrev less : ℕ
  less = (x + 4294967248) % 4294967296

  pub wrapped-digit : less ≤ 9 → is_digit x ≡ true
  wrapped-digit h = let low : 48 ≤ x = omega arith in let high : x ≤ 57 = omega arith in digit low high

  pub wrapped-value : less ≤ 9 → less ≡ x - 48
  wrapped-value h = omega arith

  pub wrapped-other : 9 < less → is_digit x ≡ false
  wrapped-other h = ⊎_elim (λ (a : 48 - x ≡ 0). let high : 57 < x = omega arith in above-digits high) (λ (a : 0 < 48 - x). let low : x < 48 = omega arith in below-digits low) (eq-zero-or-pos (48 - x))

-- a byte less that of 1: one from 1 to 9 is not 0, and any other is no digit but perhaps 0
module _ {x : ℕ} (byte : x < 256) where
  pub first-wrapped : (x + 4294967247) % 4294967296 ≤ 8 → x ≡ 48 → ⊥
  first-wrapped h z = omega arith

  pub past-wrapped : 8 < (x + 4294967247) % 4294967296 → 48 < x → 57 < x
  past-wrapped h l = omega arith

-- k digits make a value below 10 ^ k
pub below-million : (v k : ℕ) → v < 10 ^ k → k < 7 → v < 1000000
below-million v k h l = let few : k ≤ 6 = omega arith in let g : 10 ^ k ≤ 10 ^ 6 = pow-le-pow_right {n = 10} (omega arith) few in omega arith

pub one_digit_more : (v k d : ℕ) → v < 10 ^ k → d ≤ 9 → v * 10 + d < 10 ^ (k + 1)
one_digit_more v k d h l = rw (add-one k) (omega (arith, pow-suc 10 k))

-- the scan, one byte at a time
module _ (n at v x : ℕ) (xs : List ℕ) where
  pub more : is_digit x ≡ true → digits_from (suc n) at v (x ∷ xs) ≡ digits_from n (at + 1) (v * 10 + (x - 48)) xs
  unfolding digits_from
  more d = rw d

  pub stop : is_digit x ≡ false → digits_from (suc n) at v (x ∷ xs) ≡ record { value = v; to = at }
  unfolding digits_from
  stop d = rw d

pub full : (at v : ℕ) (t : List ℕ) → digits_from 0 at v t ≡ record { value = v; to = at }
unfolding digits_from
full at v t = refl

-- where a digit stands or none, at a place
module _ (s : List ℕ) (n v i : ℕ) (h : i < length s) where
  pub more-at : is_digit (get_or s i 0) ≡ true → digits_from (suc n) i v (drop i s) ≡ digits_from n (i + 1) (v * 10 + (get_or s i 0 - 48)) (drop (i + 1) s)
  more-at d = rw (drop-cons s i 0 h) (more n i v (get_or s i 0) (drop (suc i) s) d ∙ rw (add-one i))

  pub stop-at : is_digit (get_or s i 0) ≡ false → digits_from (suc n) i v (drop i s) ≡ record { value = v; to = i }
  stop-at d = rw (drop-cons s i 0 h) (stop n i v (get_or s i 0) (drop (suc i) s) d)

-- digits that are scanned spell the value that is found
pub record Spelled (t : List ℕ) (at v : ℕ) (r : Digits) : Type 0 where
  pub bytes : List ℕ
  pub rest : List ℕ
  pub form : t ≡ bytes ++ rest
  pub says : value_from v bytes ≡ Some r.value
  pub place : r.to ≡ at + length bytes

value-more : (v x : ℕ) (xs : List ℕ) → is_digit x ≡ true → value_from v (x ∷ xs) ≡ value_from (v * 10 + (x - 48)) xs
unfolding value_from
value-more v x xs d = rw d

value_none : (v x : ℕ) (xs : List ℕ) → is_digit x ≡ false → value_from v (x ∷ xs) ≡ None
unfolding value_from
value_none v x xs d = rw d

value-here : (v : ℕ) → value_from v [] ≡ Some v
unfolding value_from
value-here v = refl

nothing : (t : List ℕ) (at v : ℕ) → Spelled t at v (record { value = v; to = at })
nothing t at v = record { bytes = []; rest = t; form = refl; says = value-here v; place = sym (add-zero at) }

-- a digit or not
told : (b : Bool) → (b ≡ true) ⊎ (b ≡ false)
told true = inl refl
told false = inr refl

-- with a digit before it
module _ (x at v : ℕ) (xs : List ℕ) (d : is_digit x ≡ true) where
  longer : {r : Digits} → Spelled xs (at + 1) (v * 10 + (x - 48)) r → Spelled (x ∷ xs) at v r
  longer q =
      record {
        bytes = x ∷ q.bytes;
        rest = q.rest;
        form = ap (λ (l : List ℕ). x ∷ l) q.form;
        says = value-more v x q.bytes d ∙ q.says;
        place = omega (arith, q.place);
      }

pub spelled : (n : ℕ) (t : List ℕ) (at v : ℕ) → Spelled t at v (digits_from n at v t)
unfolding digits_from
spelled zero t at v = nothing t at v
spelled (suc n) [] at v = nothing [] at v
spelled (suc n) (x ∷ xs) at v =
    ⊎_elim
    (λ d. rw (more n at v x xs d) (longer x at v xs d (spelled n xs (at + 1) (v * 10 + (x - 48)))))
    (λ d. rw (stop n at v x xs d) (nothing (x ∷ xs) at v))
    (told (is_digit x))

-- a value only grows
pub digit-of : (v x w : ℕ) (xs : List ℕ) → value_from v (x ∷ xs) ≡ Some w → is_digit x ≡ true
digit-of v x w xs e = ⊎_elim (λ d. d) (λ d. absurd (let q : ◌≡◌ {A = ℕ} 0 1 = cc (value_none v x xs d) in (omega arith))) (told (is_digit x))

pub after-digit : (v x w : ℕ) (xs : List ℕ) → value_from v (x ∷ xs) ≡ Some w → value_from (v * 10 + (x - 48)) xs ≡ Some w
after-digit v x w xs e = sym (value-more v x xs (digit-of v x w xs e)) ∙ e

grown-by : (bytes : List ℕ) (v w k : ℕ) → 10 ^ k ≤ v → value_from v bytes ≡ Some w → 10 ^ (k + length bytes) ≤ w
grown-by [] v w k h e = let q : v ≡ w = cc (value-here v) in rw (add-zero k) (omega arith)
grown-by (x ∷ xs) v w k h e =
    rw (add-suc k (length xs), ← suc-add k (length xs))
    (grown-by xs (v * 10 + (x - 48)) w (suc k) (omega (arith, pow-suc 10 k)) (after-digit v x w xs e))

-- so a power has at most seven digits, if the first is not 0
pub seven : (x w : ℕ) (xs : List ℕ) → (x ≡ 48 → ⊥) → value_from 0 (x ∷ xs) ≡ Some w → w ≤ 2000000 → length xs ≤ 6
seven x w xs n e small =
    let d = is_digit_lem x (digit-of 0 x w xs e) in
    let h : 48 < x = omega arith in
    let v : 0 * 10 + (x - 48) ≡ x - 48 = omega arith in
    let g : 10 ^ length xs ≤ w = rw (zero-add (length xs)) at (grown-by xs (x - 48) w 0 (omega arith) (rw v at (after-digit 0 x w xs e))) in
    elim (dec_le (length xs) 6) [
      | yes k ↦ k
      | no k ↦ absurd (let j : 10 ^ 7 ≤ 10 ^ length xs = pow-le-pow_right {n = 10} (omega arith) (lt_of_not-le k) in (omega arith))
    ]

-- and its digits, which end before another byte, are all scanned
pub scanned : (n : ℕ) (bytes rest : List ℕ) (at v byte w : ℕ) → is_digit byte ≡ false → value_from v bytes ≡ Some w → length bytes ≤ n
    → digits_from n at v (bytes ++ (byte ∷ rest)) ≡ record { value = w; to = at + length bytes }
scanned zero [] rest at v byte w d e few = let q : v ≡ w = cc (value-here v) in full at v (byte ∷ rest) ∙ rw (q, add-zero at)
scanned zero (x ∷ xs) rest at v byte w d e few = absurd (omega arith)
scanned (suc n) [] rest at v byte w d e few = let q : v ≡ w = cc (value-here v) in stop n at v byte rest d ∙ rw (q, add-zero at)
scanned (suc n) (x ∷ xs) rest at v byte w d e few =
    let p : (at + 1) + length xs ≡ at + suc (length xs) = omega arith in
    more n at v x (xs ++ (byte ∷ rest)) (digit-of v x w xs e)
    ∙ scanned n xs rest (at + 1) (v * 10 + (x - 48)) byte w d (after-digit v x w xs e) (omega arith)
    ∙ rw p

-- ---- where the loop over the digits stands after k of them

pub record Midway (s : List ℕ) (from value k : ℕ) : Type 0 where
  pub few : k ≤ 7
  pub small : value < 10 ^ k
  pub here : Ended s (from + k)
  pub left : digits_from 7 from 0 (drop from s) ≡ digits_from (7 - k) (from + k) value (drop (from + k) s)

pub none_yet : (s : List ℕ) (from : ℕ) → Ended s from → Midway s from 0 0
none_yet s from h = record { few = omega arith; small = omega arith; here = rw (add-zero from) h; left = rw (add-zero from) }

module _ {s : List ℕ} {from value k : ℕ} (m : Midway s from value k) where
  abbrev here : ℕ
  here = get_or s (from + k) 0

  module _ (h : k < 7) where
    again : 7 - k ≡ suc (7 - (k + 1))
    again = omega arith

    pub one_more : {d : ℕ} → is_digit here ≡ true → d ≡ here - 48 → d ≤ 9 → Midway s from (value * 10 + d) (k + 1)
    one_more {d} stands e l =
        let place : from + k + 1 ≡ from + (k + 1) = omega arith in
        let other : here ≡ 10 → ⊥ = λ z. omega (arith, is_digit_lem here stands) in
        record {
          few = omega arith;
          small = one_digit_more value k d m.small l;
          here = rw place at (next m.here other);
          left = m.left ∙ rw (← place, e, again) (more-at s (7 - (k + 1)) value (from + k) m.here.within stands);
        }

    pub stopped : is_digit here ≡ false → Counted s from (record { value = value; to = from + k })
    stopped other = record { is = sym (m.left ∙ rw again (stop-at s (7 - (k + 1)) value (from + k) m.here.within other)); stands = m.here }

  pub all : 7 ≤ k → Counted s from (record { value = value; to = from + 7 })
  all h =
      let seventh : k ≡ 7 = omega (arith, m.few) in
      let none : 7 - k ≡ 0 = omega arith in
      rw (← seventh) (record { is = sym (m.left ∙ rw none (full (from + k) value (drop (from + k) s))); stands = m.here })
