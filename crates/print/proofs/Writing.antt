-- One write after another, and what a text written from the start of a buffer leaves there.
use Prim.Native.Nat.{ℕ, suc, ◌+◌, ◌≤◌, ◌<◌}
use mathlib.Core.Path.{◌≡◌, refl, sym, ap, ◌∙◌}
use mathlib.Core.List.{List, [], ◌∷◌, ◌++◌}
use native.Mathlib.Omega.{arith}
use native.Mathlib.Decide.{dec_le}
use native.Mathlib.Nat.{add-zero, add-suc, suc-add, zero-add, lt_of_not-le}
use lib.ListN.{length, drop, set, length-append}
use lib.Seq.{sets, length-sets, sets-eq, set_out}
use Rattle.print.specs.Print.{last, after, Wrote}

sets-append : (d : List ℕ) (at : ℕ) (xs ys : List ℕ) → sets (sets d at xs) (at + length xs) ys ≡ sets d at (xs ++ ys)
sets-append d at [] ys = ap (λ (k : ℕ). sets d k ys) (add-zero at)
sets-append d at (x ∷ xs) ys =
    ap (λ (k : ℕ). sets (sets (set d at x) (suc at) xs) k ys) (add-suc at (length xs) ∙ sym (suc-add at (length xs)))
    ∙ sets-append (set d at x) (suc at) xs ys

-- past the end nothing is written
sets-past : (d : List ℕ) (at : ℕ) (xs : List ℕ) → length d ≤ at → sets d at xs ≡ d
sets-past d at [] h = refl
sets-past d at (x ∷ xs) h = rw (set_out d at x h) (sets-past d (suc at) xs (omega arith))

-- so the last place may stand for those past it
sets-after : (d : List ℕ) (at n : ℕ) (xs : List ℕ) → length d ≤ last → sets d (after at n) xs ≡ sets d (at + n) xs
sets-after d at n xs h =
    elim (dec_le (at + n) last) [
      | yes l ↦ let e : after at n ≡ at + n = omega arith in ap (λ (k : ℕ). sets d k xs) e
      | no l ↦ let m : last < at + n = lt_of_not-le l in sets-past d (after at n) xs (omega arith) ∙ sym (sets-past d (at + n) xs (omega arith))
    ]

pub wrote_nothing : {d : List ℕ} {at : ℕ} → at ≤ last → length d ≤ last → Wrote d at [] at d
wrote_nothing h l = record { next = omega arith; bytes = refl; reach = l }

pub wrote-length : {d d' : List ℕ} {at r : ℕ} {xs : List ℕ} → Wrote d at xs r d' → length d' ≡ length d
wrote-length {d} {d'} {at} {r} {xs} p = ap length p.bytes ∙ length-sets d at xs

-- one text after another is the text of both
pub join : {d d' d'' : List ℕ} {at r r' : ℕ} {xs ys : List ℕ} → Wrote d at xs r d' → Wrote d' r ys r' d'' → Wrote d at (xs ++ ys) r' d''
join {d} {d'} {d''} {at} {r} {r'} {xs} {ys} p q =
    record {
      next = omega (arith, length-append xs ys);
      bytes =
          q.bytes
          ∙ rw (p.bytes, p.next)
          (sets-after (sets d at xs) at (length xs) ys (rw (length-sets d at xs) p.reach) ∙ sets-append d at xs ys);
      reach = p.reach;
    }

-- from the start, where there is room: the text, and the rest as it was
pub at-start : {d d' : List ℕ} {r : ℕ} {xs : List ℕ} → Wrote d 0 xs r d' → length xs ≤ length d → d' ≡ xs ++ drop (length xs) d
at-start {d} {d'} {r} {xs} p h = p.bytes ∙ sets-eq xs d 0 (omega arith) ∙ ap (λ (k : ℕ). xs ++ drop k d) (zero-add (length xs))

-- and the place after it is the text's length, for every text that a buffer could hold
pub measured : {d d' : List ℕ} {r : ℕ} {xs : List ℕ} → Wrote d 0 xs r d' → length xs ≤ last → r ≡ length xs
measured p h = omega arith

-- no second answer fits: neither the place after the text nor a byte of the buffer can differ
pub wrote-only : {d d' d'' : List ℕ} {at r r' : ℕ} {xs : List ℕ} → Wrote d at xs r d' → Wrote d at xs r' d'' → (r ≡ r') × (d' ≡ d'')
wrote-only p q = (p.next ∙ sym q.next, p.bytes ∙ sym q.bytes)
