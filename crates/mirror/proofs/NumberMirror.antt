-- A number whose minus is put in or taken off is read as the number with its sign changed.
-- Assumes nothing.
use Prim.Native.Nat.{ℕ, zero, suc, ◌+◌, ◌-◌, ◌*◌, ◌≤◌}
use mathlib.Core.Path.{◌≡◌, refl, sym}
use mathlib.Core.Bool.{Bool, true, false, cond}
use mathlib.Core.List.{List, [], ◌∷◌}
use native.Mathlib.Omega.{arith}
use native.Mathlib.Decide.{ℕ_discrete}
use borrow.Author.Tests.{ltb-false, leb-true, eqb-true, eq-eqb, ne_eqb}
use lib.Dec.{ltb, leb, eqb}
use lib.IntN.{ℤ, pos, negsuc, neg_ℤ}
use lib.ListN.{length}
use Rattle.arithmetic.proofs.Booleans.{true-false, both}
use Rattle.std.specs.Prelude.{Option, Some, None}
use Rattle.std.proofs.lemmas.Option.{none-some, same_Some}
use Rattle.fields.specs.Numbers.{is_digit, value_from, digits_of, unsigned_of, negative, plain, long_number_of}
use Rattle.mirror.specs.Bytes.{mirror_number}

-- ---- what has a value passed the tests before it

unless : (b : Bool) (d : Option ℕ) (w : ℕ) → cond b None d ≡ Some w → (b ≡ false) × (d ≡ Some w)
unless true d w e = absurd (none-some w e)
unless false d w e = (refl, e)

where-so : (b : Bool) (d : Option ℕ) (w : ℕ) → cond b d None ≡ Some w → (b ≡ true) × (d ≡ Some w)
where-so true d w e = (refl, e)
where-so false d w e = absurd (none-some w e)

-- either test lets it pass
one_of : (a b : Bool) (d : Option ℕ) (w : ℕ) → cond a d (cond b None d) ≡ Some w → (d ≡ Some w) × (b ≡ true → a ≡ true)
one_of true b d w e = (e, λ h. refl)
one_of false b d w e = ((unless b d w e).1, λ h. true-false h (unless b d w e).0)

-- more digits make no number smaller
value_grows : (v w : ℕ) (s : List ℕ) → value_from v s ≡ Some w → v ≤ w
unfolding value_from
value_grows v w [] e = omega (arith, same_Some v w e)
value_grows v w (x ∷ s) e = omega (arith, value_grows (v * 10 + (x - 48)) w s (where-so (is_digit x) _ w e).1)

-- ---- the first digit of a number without a sign: it is 0 in the number 0 alone

record Leads (most x : ℕ) (xs : List ℕ) (n : ℕ) : Type 0 where
  few : length (x ∷ xs) ≤ most
  digit : 48 ≤ x
  nought : x ≡ 48 → (xs ≡ []) × (n ≡ 0)
  some : (x ≡ 48 → ⊥) → 1 ≤ n

no_more : (x : ℕ) (xs : List ℕ) → length (x ∷ xs) ≡ 1 → xs ≡ []
no_more x [] e = refl
no_more x (y ∷ xs) e = absurd (omega arith)

leads : (most x : ℕ) (xs : List ℕ) (n : ℕ) → unsigned_of most (x ∷ xs) ≡ Some n → Leads most x xs n
unfolding unsigned_of digits_of value_from
leads most x xs n e =
    let s = x ∷ xs in
    let p = unless (ltb most (length s)) _ n (unless (eqb (length s) 0) _ n e).1 in
    let r = one_of (eqb (length s) 1) (eqb x 48) _ n (unless (ltb 18 (length s)) _ n p.1).1 in
    let d = where-so (is_digit x) (value_from (0 * 10 + (x - 48)) xs) n r.0 in
    let low : 48 ≤ x = leb-true 48 x (both (leb 48 x) (leb x 57) d.0).0 in
    record {
      few = ltb-false most (length s) p.0;
      digit = low;
      nought =
          λ h.
          let one : xs ≡ [] = no_more x xs (eqb-true (length s) 1 (r.1 (eq-eqb x 48 h))) in
          (one, same_Some n 0 (sym (rw (one, h) at d.1)));
      some = λ h. omega (arith, value_grows (0 * 10 + (x - 48)) n xs d.1);
    }

-- ---- the numbers that are read: 0, those without a sign, those with a minus

data Read (most : ℕ) : List ℕ → ℤ → Type 0 where
  nought : unsigned_of most (48 ∷ []) ≡ Some 0 → Read most (48 ∷ []) (pos 0)
  above : {x n : ℕ} {xs : List ℕ} → (x ≡ 45 → ⊥) → (x ≡ 48 → ⊥) → unsigned_of most (x ∷ xs) ≡ Some (suc n) → Read most (x ∷ xs) (pos (suc n))
  below : {x n : ℕ} {xs : List ℕ} → (x ≡ 45 → ⊥) → (x ≡ 48 → ⊥) → unsigned_of most (x ∷ xs) ≡ Some (suc n) → Read most (45 ∷ (x ∷ xs)) (negsuc n)

module _ (most : ℕ) where
  -- a number that is not 0 begins neither with a minus nor with 0
  no_minus : (x : ℕ) (xs : List ℕ) (n : ℕ) → unsigned_of most (x ∷ xs) ≡ Some n → x ≡ 45 → ⊥
  no_minus x xs n e h = omega (arith, (leads most x xs n e).digit)

  no-nought : (x : ℕ) (xs : List ℕ) (n : ℕ) → unsigned_of most (x ∷ xs) ≡ Some (suc n) → x ≡ 48 → ⊥
  no-nought x xs n e h = omega (arith, ((leads most x xs (suc n) e).nought h).1)

  empty-other : (n : ℕ) → unsigned_of most [] ≡ Some n → ⊥
  unfolding unsigned_of
  empty-other n e = none-some n e

  after_minus : (xs : List ℕ) (d : Option ℕ) (z : ℤ) → unsigned_of most xs ≡ d → negative d ≡ Some z → Read most (45 ∷ xs) z
  after_minus xs (Some zero) z u e = absurd (none-some z e)
  after_minus [] (Some (suc n)) z u e = absurd (empty-other (suc n) u)
  after_minus (x ∷ xs) (Some (suc n)) z u e =
      rw (← same_Some (negsuc n) z e) (below (no_minus x xs (suc n) u) (no-nought x xs n u) u)
  after_minus xs None z u e = absurd (none-some z e)

  without-minus : (x : ℕ) (xs : List ℕ) (d : Option ℕ) (z : ℤ) → unsigned_of most (x ∷ xs) ≡ d → plain d ≡ Some z → Read most (x ∷ xs) z
  without-minus x xs (Some zero) z u e =
      elim (ℕ_discrete x 48) [
        | yes h ↦ let one : xs ≡ [] = ((leads most x xs 0 u).nought h).0 in rw (← same_Some (pos 0) z e, h, one) (nought (rw (h, one) at u))
        | no h ↦ absurd (omega (arith, (leads most x xs 0 u).some h))
      ]
  without-minus x xs (Some (suc n)) z u e =
      rw (← same_Some (pos (suc n)) z e) (above (no_minus x xs (suc n) u) (no-nought x xs n u) u)
  without-minus x xs None z u e = absurd (none-some z e)

  read : (f : List ℕ) (z : ℤ) → long_number_of most f ≡ Some z → Read most f z
  unfolding long_number_of
  read [] z e = absurd (none-some z e)
  read (x ∷ xs) z e =
      elim (ℕ_discrete x 45) [
        | yes h ↦ rw h (after_minus xs (unsigned_of most xs) z refl (rw (eq-eqb x 45 h) at e))
        | no h ↦ without-minus x xs (unsigned_of most (x ∷ xs)) z refl (rw (ne_eqb x 45 h) at e)
      ]

  -- and so they are read
  is_read : {f : List ℕ} {z : ℤ} → Read most f z → long_number_of most f ≡ Some z
  unfolding long_number_of
  is_read (nought e) = rw e
  is_read (above {x} m n e) = rw (ne_eqb x 45 m, e)
  is_read (below m n e) = rw e

  mirrored : {f : List ℕ} {z : ℤ} → Read most f z → Read most (mirror_number f) (neg_ℤ z)
  unfolding mirror_number
  mirrored (nought e) = nought e
  mirrored (above {x} m n e) = rw (ne_eqb x 45 m, ne_eqb x 48 n) (below m n e)
  mirrored (below m n e) = above m n e

  twice : {f : List ℕ} {z : ℤ} → Read most f z → mirror_number (mirror_number f) ≡ f
  unfolding mirror_number
  twice (nought e) = refl
  twice (above {x} m n e) = rw (ne_eqb x 45 m, ne_eqb x 48 n)
  twice (below {x} m n e) = rw (ne_eqb x 45 m, ne_eqb x 48 n)

  short : {f : List ℕ} {z : ℤ} → Read most f z → length f ≤ suc most
  short (nought e) = omega (arith, (leads most 48 [] 0 e).few)
  short (above {x} {n} {xs} m k e) = omega (arith, (leads most x xs (suc n) e).few)
  short (below {x} {n} {xs} m k e) = omega (arith, (leads most x xs (suc n) e).few)

  -- THE LAWS: the mirror of a number is read as the number with its sign changed; mirrored twice it is what was there; it takes one byte more than its digits at most
  module _ (f : List ℕ) (z : ℤ) (e : long_number_of most f ≡ Some z) where
    pub number-mirrored : long_number_of most (mirror_number f) ≡ Some (neg_ℤ z)
    number-mirrored = is_read (mirrored (read f z e))

    pub number-twice : mirror_number (mirror_number f) ≡ f
    number-twice = twice (read f z e)

    pub number_short : length f ≤ suc most
    number_short = short (read f z e)
