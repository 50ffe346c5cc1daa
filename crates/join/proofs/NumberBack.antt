-- A number that is printed is read as that number.
-- Assumes nothing.
use Prim.Native.Nat.{ℕ, zero, suc, ◌+◌, ◌-◌, ◌*◌, ◌/◌, ◌%◌, ◌^◌, ◌≤◌, ◌<◌}
use mathlib.Core.Path.{◌≡◌, ap, ◌∙◌}
use mathlib.Core.Bool.{Bool, true, false, cond}
use mathlib.Core.List.{List, [], ◌∷◌, ◌++◌}
use native.Mathlib.Omega.{arith}
use native.Mathlib.Decide.{dec_le}
use native.Mathlib.Nat.{lt_of_not-le}
use borrow.Author.Tests.{le-ltb, le-leb, eq-eqb, ne_eqb}
use lib.Dec.{ltb}
use lib.IntN.{ℤ, pos, negsuc}
use lib.ListN.{length, get_or, length-append, get_or-append}
use Rattle.arithmetic.specs.Whole.{up, down}
use Rattle.print.specs.Decimal.{last_digit, digits_in, digits, number_text}
use Rattle.print.proofs.Digits.{digits-one, digits_more, digits-length}
use Rattle.std.specs.Prelude.{Option, Some, None}
use Rattle.std.proofs.lemmas.Option.{none-some, same_Some}
use Rattle.fields.specs.Numbers.{is_digit, value_from, digits_of, unsigned_of, negative, plain, long_number_of}
use Rattle.fields.proofs.SignLaws.{no_minus}
use Rattle.meaning.specs.Endings.{Each, of_none, of_more}

-- one order or the other
in_order : {X : Type 0} (a b : ℕ) → (a < b → X) → (b ≤ a → X) → X
in_order a b f g = elim (dec_le b a) [ yes h ↦ g h | no h ↦ f (lt_of_not-le h) ]

-- what holds of each of some and of others holds of each of both
pub each_both : {X : Type 0} {P : X → Type 0} {xs ys : List X} → Each P xs → Each P ys → Each P (xs ++ ys)
each_both of_none qs = qs
each_both (of_more p ps) qs = of_more p (each_both ps qs)

-- ---- a byte that is neither a tab nor an LF: those of a number are digits and a minus

abbrev pub Visible : ℕ → Type 0
Visible byte = 45 ≤ byte

digits-visible : (f n : ℕ) → Each Visible (digits_in f n)
unfolding digits_in
digits-visible zero n = of_none
digits-visible (suc f) n = go (ltb n 10) (digits-visible f (n / 10))
  where
    go : (t : Bool) → Each Visible (digits_in f (n / 10)) → Each Visible (cond t (last_digit n) (digits_in f (n / 10) ++ last_digit n))
    go true p = let v : Visible (48 + n % 10) = omega arith in of_more v of_none
    go false p = let v : Visible (48 + n % 10) = omega arith in each_both p (of_more v of_none)

-- so is each byte of a number
pub number-visible : (z : ℤ) → Each Visible (number_text z)
unfolding number_text digits
number-visible (pos n) = digits-visible (suc n) n
number-visible (negsuc n) = let v : Visible 45 = omega arith in of_more v (digits-visible (suc (suc n)) (suc n))

-- ---- the digits of a number say its value

digit-is : (d : ℕ) → d < 10 → is_digit (48 + d) ≡ true
digit-is d h = rw (le-leb 48 (48 + d) (omega arith), le-leb (48 + d) 57 (omega arith))

-- a byte that was a digit still is
onward : (t : Bool) (a b : Option ℕ) (v w : ℕ) → cond t a None ≡ Some v → (a ≡ Some v → b ≡ Some w) → cond t b None ≡ Some w
onward true a b v w e f = f e
onward false a b v w e f = absurd (none-some v e)

-- one digit more
value-end : (v w d : ℕ) (xs : List ℕ) → d < 10 → value_from v xs ≡ Some w → value_from v (xs ++ ((48 + d) ∷ [])) ≡ Some (w * 10 + d)
unfolding value_from
value-end v w d [] h e =
    let same : v ≡ w = same_Some v w e in
    let back : 48 + d - 48 ≡ d = omega arith in
    rw (digit-is d h, same, back)
value-end v w d (x ∷ xs) h e =
    let next = v * 10 + (x - 48) in
    onward (is_digit x) (value_from next xs) (value_from next (xs ++ ((48 + d) ∷ []))) w (w * 10 + d) e (value-end next w d xs h)

-- by any number k above n
value-back : (k n : ℕ) → n < k → value_from 0 (digits n) ≡ Some n
unfolding value_from
value-back zero n h = absurd (omega arith)
value-back (suc k) n h =
    in_order n 10
    (λ s. let back : 0 * 10 + (48 + n - 48) ≡ n = omega arith in rw (digits-one n s, digit-is n s, back))
    (λ s.
    let whole : n / 10 * 10 + n % 10 ≡ n = omega arith in
    rw (digits_more n s) (value-end 0 (n / 10) (n % 10) (digits (n / 10)) (omega arith) (value-back k (n / 10) (omega arith)) ∙ ap Some whole))

-- there is a first digit, and it is not 0 unless the number is
record Leads (n : ℕ) : Type 0 where
  some : 1 ≤ length (digits n)
  first : 48 ≤ get_or (digits n) 0 0
  not-zero : 1 ≤ n → 49 ≤ get_or (digits n) 0 0

leads : (k n : ℕ) → n < k → Leads n
leads zero n h = absurd (omega arith)
leads (suc k) n h =
    in_order n 10
    (λ s. let e = digits-one n s in record { some = rw e (omega arith); first = rw e (omega arith); not-zero = λ p. rw e (omega arith) })
    (λ s.
    let r = leads k (n / 10) (omega arith) in
    let e = digits_more n s in
    let g : get_or (digits (n / 10) ++ last_digit n) 0 0 ≡ get_or (digits (n / 10)) 0 0 = get_or-append (digits (n / 10)) (last_digit n) 0 0 r.some in
    let more : 49 ≤ get_or (digits (n / 10)) 0 0 = r.not-zero (omega arith) in
    record {
      some = rw e (omega (arith, length-append (digits (n / 10)) (last_digit n)));
      first = rw (e, g) (omega arith);
      not-zero = λ p. rw (e, g) more;
    })

-- ---- a number of at most `most` digits, without its sign

module _ (most n : ℕ) (few : length (digits n) ≤ most) (small : most ≤ 18) where
  one-back : n < 10 → unsigned_of most (digits n) ≡ Some n
  unfolding unsigned_of digits_of
  one-back s =
      let e : length (digits n) ≡ 1 = ap length (digits-one n s) in
      rw (
        ne_eqb (length (digits n)) 0 (λ z. omega arith),
        le-ltb most (length (digits n)) few,
        le-ltb 18 (length (digits n)) (omega arith),
        eq-eqb (length (digits n)) 1 e,
      )
      (value-back (suc n) n (omega arith))

  more-back : 10 ≤ n → unsigned_of most (digits n) ≡ Some n
  unfolding unsigned_of digits_of
  more-back s =
      let l = leads (suc n) n (omega arith) in
      let r = leads (suc (n / 10)) (n / 10) (omega arith) in
      let e : length (digits n) ≡ length (digits (n / 10)) + 1 = ap length (digits_more n s) ∙ length-append (digits (n / 10)) (last_digit n) in
      rw (
        ne_eqb (length (digits n)) 0 (λ z. omega arith),
        le-ltb most (length (digits n)) few,
        le-ltb 18 (length (digits n)) (omega arith),
        ne_eqb (length (digits n)) 1 (λ z. omega (arith, r.some)),
        ne_eqb (get_or (digits n) 0 0) 48 (λ z. omega (arith, l.not-zero (omega arith))),
      )
      (value-back (suc n) n (omega arith))

  unsigned_back : unsigned_of most (digits n) ≡ Some n
  unsigned_back = in_order n 10 one-back more-back

-- ---- A NUMBER IS READ AS WHAT IT WAS PRINTED FOR, with k + 1 digits at most

pub number-back : (k : ℕ) (z : ℤ) → suc k ≤ 18 → up z < 10 ^ suc k → down z < 10 ^ suc k → long_number_of (suc k) (number_text z) ≡ Some z
unfolding number_text long_number_of up down
number-back k (pos n) small u d =
    let l = leads (suc n) n (omega arith) in
    no_minus (suc k) (digits n) (λ e. omega (arith, l.some)) (λ e. omega (arith, l.first)) ∙ ap plain (unsigned_back (suc k) n (digits-length k n u) small)
number-back k (negsuc n) small u d = ap negative (unsigned_back (suc k) (suc n) (digits-length k (suc n) d) small)

-- and it takes one byte more, at most
pub number_short : (k : ℕ) (z : ℤ) → up z < 10 ^ suc k → down z < 10 ^ suc k → length (number_text z) ≤ suc (suc k)
unfolding number_text up down
number_short k (pos n) u d = omega (arith, digits-length k n u)
number_short k (negsuc n) u d = omega (arith, digits-length k (suc n) d)
