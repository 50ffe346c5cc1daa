-- How a direction of a quarter hour is looked at, and one quarter hour after the other.
-- Assumes nothing.
use Rattle.std.specs.Prelude.{min}
use native.Mathlib.Decide.{dec_lt}
use Prim.Native.Nat.{ℕ, zero, suc, ◌+◌, ◌-◌, ◌≤◌, ◌<◌}
use mathlib.Core.Path.{◌≡◌, refl, sym, ap, ◌∙◌}
use mathlib.Core.Bool.{true, false, cond}
use mathlib.Core.List.{List, [], ◌∷◌, ◌++◌}
use native.Mathlib.Omega.{arith}
use lib.IntN.{ℤ, pos}
use lib.ListN.{length, take, drop, replicate, length-drop, drop_of_length-le}
use lib.Seq.{take_all, length-take-le}
use Rattle.arithmetic.specs.Energy.{kwh}
use Rattle.series.specs.Scan.{each}
use Rattle.shares.specs.Shares.{amounts}
use Rattle.vocabulary.specs.declared.direction.Direction.TheVariants.{Positive, Negative}
use Rattle.contracts.specs.declared.books.Books.{Books}
use Rattle.sheets.specs.declared.verdict.Verdict.{Verdict}
use Rattle.sheets.specs.declared.verdict.Verdict.TheVariants.{Accepted, Failing}
use Rattle.judging.specs.Kept.{Kept}
use Rattle.judging.specs.Judged.{filled_out, holds_in, verdict_from}

-- ---- shares from a place on, over 32 zeros

blanks-left : (n k : ℕ) (z : ℤ) → drop k (replicate n z) ≡ replicate (n - k) z
blanks-left n zero z = let e : n - 0 ≡ n = omega arith in rw e
blanks-left zero (suc k) z = let e : 0 - suc k ≡ 0 = omega arith in rw e
blanks-left (suc n) (suc k) z = let e : suc n - suc k ≡ n - k = omega arith in rw e (blanks-left n k z)

pub least-take : {A : Type 0} (l : List A) (n : ℕ) → take (min n (length l)) l ≡ take n l
least-take l n =
    elim (dec_lt n (length l)) [
      | yes h ↦ let e : min n (length l) ≡ n = omega arith in rw e
      | no h ↦ let e : min n (length l) ≡ length l = omega arith in rw (e, take_all (length l) l (omega arith), take_all n l (omega arith))
    ]

pub least-drop : (l : List ℤ) (n : ℕ) → drop (min n (length l)) l ≡ drop n l
least-drop l n =
    elim (dec_lt n (length l)) [
      | yes h ↦ let e : min n (length l) ≡ n = omega arith in rw e
      | no h ↦
          let e : min n (length l) ≡ length l = omega arith in
          let all : length l ≤ length l = omega arith in
          let past : length l ≤ n = omega arith in
          ap (λ (k : ℕ). drop k l) e ∙ drop_of_length-le l all ∙ sym (drop_of_length-le l past)
    ]

-- the first n of them, as far as there are so many, over 32 zeros
pub filled-first : (l : List ℤ) (n held : ℕ) → held ≡ min n (length l) → take held l ++ drop held (replicate 32 (pos 0)) ≡ filled_out (take n l)
unfolding filled_out
filled-first l n held e =
    let m : length (take held l) ≡ held = length-take-le held l (omega arith) in
    let same : take held l ≡ take n l = ap (λ (k : ℕ). take k l) e ∙ least-take l n in
    let more : replicate (32 - held) (pos 0) ≡ replicate (32 - length (take held l)) (pos 0) = ap (λ (k : ℕ). replicate (32 - k) (pos 0)) (sym m) in
    ap (λ (r : List ℤ). take held l ++ r) (blanks-left 32 held (pos 0) ∙ more) ∙ ap (λ (r : List ℤ). r ++ replicate (32 - length r) (pos 0)) same

-- what a direct read of the rest gives
pub filled-rest : (shares : List ℤ) (from n start held : ℕ) → start ≡ min from (length shares) → held ≡ min n (length (take (length shares - start) (drop start shares)))
    → take held (take (length shares - start) (drop start shares)) ++ drop held (replicate 32 (pos 0)) ≡ filled_out (take n (drop from shares))
filled-rest shares from n start held e f =
    let left : length (drop start shares) ≡ length shares - start = length-drop start shares in
    let whole : take (length shares - start) (drop start shares) ≡ drop start shares = take_all (length shares - start) (drop start shares) (omega arith) in
    let rest : take (length shares - start) (drop start shares) ≡ drop from shares = whole ∙ ap (λ (k : ℕ). drop k shares) e ∙ least-drop shares from in
    ap (λ (l : List ℤ). take held l ++ drop held (replicate 32 (pos 0))) rest
    ∙ filled-first (drop from shares) n held (f ∙ ap (λ (l : List ℤ). min n (length l)) rest)

-- numbers as energies, and back
pub kwh-amounts : (l : List ℕ) → amounts (each kwh l) ≡ l
unfolding each
kwh-amounts [] = refl
kwh-amounts (x ∷ l) = ap (λ (r : List ℕ). x ∷ r) (kwh-amounts l)

-- ---- one quarter hour after the other

module _ (books : Books) (kept : Kept) (all q : ℕ) where
  abbrev from-here : Verdict
  from-here = verdict_from books kept all q (all - q)

  looked-at : q < all → from-here
      ≡ cond (holds_in books kept q Positive) (cond (holds_in books kept q Negative) (verdict_from books kept all (q + 1) (all - (q + 1))) (Failing q Negative)) (Failing q Positive)
  unfolding verdict_from
  looked-at h = let e : all - q ≡ suc (all - (q + 1)) = omega arith in rw e

  pub positive-fails : q < all → holds_in books kept q Positive ≡ false → from-here ≡ Failing q Positive
  positive-fails h e = looked-at h ∙ rw e

  pub negative-fails : q < all → holds_in books kept q Positive ≡ true → holds_in books kept q Negative ≡ false → from-here ≡ Failing q Negative
  negative-fails h e f = looked-at h ∙ rw (e, f)

  pub both_hold : q < all → holds_in books kept q Positive ≡ true → holds_in books kept q Negative ≡ true → from-here ≡ verdict_from books kept all (q + 1) (all - (q + 1))
  both_hold h e f = looked-at h ∙ rw (e, f)

  pub none_left : all ≤ q → from-here ≡ Accepted all
  unfolding verdict_from
  none_left h = let e : all - q ≡ 0 = omega arith in rw e
