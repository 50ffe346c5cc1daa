-- The digits of a number, one at a time and counted.
use Prim.Native.Nat.{ℕ, zero, suc, ◌+◌, ◌/◌, ◌%◌, ◌^◌, ◌≤◌, ◌<◌}
use mathlib.Core.Path.{◌≡◌, refl, sym, ap, ◌∙◌}
use mathlib.Core.Bool.{true, false}
use mathlib.Core.List.{List, [], ◌∷◌, ◌++◌, append_assoc}
use native.Mathlib.Omega.{arith}
use native.Mathlib.Nat.{pow-suc, not-suc-le-zero}
use Rattle.std.proofs.Common.{⊎_elim}
use Rattle.std.proofs.lemmas.Bool.{cases_lt}
use borrow.Author.Tests.{ltb-true, lt-ltb, le-ltb}
use lib.ListN.{length, length-append}
use lib.Signed.{mag, lt_z}
use lib.IntN.{ℤ, pos, negsuc, nat_abs}
use Rattle.print.specs.Decimal.{hyphen, last_digit, digits_in, digits, number_text, two_digits, four_digits, date_text}
use Rattle.arithmetic.specs.declared.date.Date.{Date}

one_in : (f n : ℕ) → n < 10 → digits_in (suc f) n ≡ last_digit n
unfolding digits_in
one_in f n h = rw (lt-ltb n 10 h)

more-in : (f n : ℕ) → 10 ≤ n → digits_in (suc f) n ≡ digits_in f (n / 10) ++ last_digit n
unfolding digits_in
more-in f n h = rw (le-ltb n 10 h)

-- any count that is large enough gives the same digits
same : (f g n : ℕ) → n ≤ f → n ≤ g → digits_in (suc f) n ≡ digits_in (suc g) n
same zero g n hf hg = one_in 0 n (omega arith) ∙ sym (one_in g n (omega arith))
same (suc f) zero n hf hg = one_in (suc f) n (omega arith) ∙ sym (one_in 0 n (omega arith))
same (suc f) (suc g) n hf hg =
    ⊎_elim
    (λ h. one_in (suc f) n h ∙ sym (one_in (suc g) n h))
    (λ h. more-in (suc f) n h ∙ ap (λ (l : List ℕ). l ++ last_digit n) (same f g (n / 10) (omega arith) (omega arith)) ∙ sym (more-in (suc g) n h))
    (cases_lt n 10)

pub digits-one : (n : ℕ) → n < 10 → digits n ≡ (48 + n) ∷ []
unfolding digits
digits-one n h = let e : n % 10 ≡ n = omega arith in one_in n n h ∙ ap (λ (k : ℕ). (48 + k) ∷ []) e

pub digits_more : (n : ℕ) → 10 ≤ n → digits n ≡ digits (n / 10) ++ last_digit n
unfolding digits
digits_more n h = same n (suc n) n (omega arith) (omega arith) ∙ more-in (suc n) n h ∙ ap (λ (l : List ℕ). l ++ last_digit n) (same n (n / 10) (n / 10) (omega arith) (omega arith))

-- two digits, three and four
pub digits-two : (n : ℕ) → 10 ≤ n → n < 100 → digits n ≡ two_digits n
unfolding two_digits
digits-two n h l =
    let e : n / 10 % 10 ≡ n / 10 = omega arith in
    digits_more n h ∙ ap (λ (d : List ℕ). d ++ last_digit n) (digits-one (n / 10) (omega arith) ∙ ap (λ (k : ℕ). (48 + k) ∷ []) (sym e))

-- the last two of more
digits-hundred : (n : ℕ) → 100 ≤ n → digits n ≡ digits (n / 100) ++ two_digits n
unfolding two_digits
digits-hundred n h =
    let e : n / 10 / 10 ≡ n / 100 = omega arith in
    digits_more n (omega arith)
    ∙ ap (λ (d : List ℕ). d ++ last_digit n) (digits_more (n / 10) (omega arith) ∙ ap (λ (k : ℕ). digits k ++ last_digit (n / 10)) e)
    ∙ append_assoc (digits (n / 100)) (last_digit (n / 10)) (last_digit n)

pub digits-three : (n : ℕ) → 100 ≤ n → n < 1000 → digits n ≡ ((48 + n / 100) ∷ []) ++ two_digits n
digits-three n h l = digits-hundred n h ∙ ap (λ (d : List ℕ). d ++ two_digits n) (digits-one (n / 100) (omega arith))

pub digits-four : (n : ℕ) → 1000 ≤ n → n < 10000 → digits n ≡ four_digits n
unfolding four_digits
digits-four n h l = digits-hundred n (omega arith) ∙ ap (λ (d : List ℕ). d ++ two_digits n) (digits-two (n / 100) (omega arith) (omega arith))

-- two digits tell no more than what is left by a hundred
last-two : (a b : ℕ) → a % 100 ≡ b % 100 → two_digits a ≡ two_digits b
unfolding two_digits
last-two a b h =
    let tens : a / 10 % 10 ≡ b / 10 % 10 = omega arith in
    let ones : a % 10 ≡ b % 10 = omega arith in
    rw (tens, ones) refl

-- the last four of more
pub digits-myriad : (n : ℕ) → 10000 ≤ n → digits n ≡ digits (n / 10000) ++ four_digits (n % 10000)
unfolding four_digits
digits-myriad n h =
    let e : n / 100 / 100 ≡ n / 10000 = omega arith in
    let high : n / 100 % 100 ≡ n % 10000 / 100 % 100 = omega arith in
    let low : n % 100 ≡ n % 10000 % 100 = omega arith in
    digits-hundred n (omega arith)
    ∙ ap (λ (d : List ℕ). d ++ two_digits n) (digits-hundred (n / 100) (omega arith) ∙ ap (λ (k : ℕ). digits k ++ two_digits (n / 100)) e)
    ∙ append_assoc (digits (n / 10000)) (two_digits (n / 100)) (two_digits n)
    ∙ rw (last-two (n / 100) (n % 10000 / 100) high, last-two n (n % 10000) low) refl

-- as many digits as the power of ten says
pub digits-length : (k n : ℕ) → n < 10 ^ suc k → length (digits n) ≤ suc k
digits-length zero n h = rw (digits-one n h) (omega arith)
digits-length (suc k) n h =
    ⊎_elim
    (λ s. rw (digits-one n s) (omega arith))
    (λ s. rw (digits_more n s) (omega (arith, length-append (digits (n / 10)) (last_digit n), digits-length k (n / 10) (omega (arith, pow-suc 10 (suc k))))))
    (cases_lt n 10)

pub text-negative : (z : ℤ) → lt_z z (pos 0) ≡ true → number_text z ≡ hyphen ++ digits (nat_abs z)
unfolding number_text
text-negative (pos n) h = absurd (not-suc-le-zero (ltb-true n 0 h))
text-negative (negsuc n) h = refl

pub text-plain : (z : ℤ) → lt_z z (pos 0) ≡ false → number_text z ≡ digits (nat_abs z)
unfolding number_text
text-plain (pos n) h = refl
text-plain (negsuc n) h = absurd (let q : ◌≡◌ {A = ℕ} 0 1 = cc in (omega arith))

-- an i64 takes at most 20 bytes
pub text-length : (z : ℤ) → mag z < 2 ^ 63 → length (number_text z) ≤ 20
unfolding number_text
text-length (pos n) h = omega (arith, digits-length 18 n (omega arith))
text-length (negsuc n) h = omega (arith, digits-length 18 (suc n) (omega arith))

-- and a date takes ten
pub date-length : (date : Date) → length (date_text date) ≡ 10
unfolding date_text four_digits two_digits
date-length date = refl
