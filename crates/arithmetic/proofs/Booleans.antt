-- Laws on Booleans.
-- Assumes nothing.
use Prim.Native.Nat.{ℕ}
use mathlib.Core.Path.{◌≡◌, refl, sym}
use mathlib.Core.Bool.{Bool, true, false, ◌&&◌, ◌||◌}
use native.Mathlib.Omega.{arith}
use native.Mathlib.Decide.{ℕ_discrete}
use borrow.Author.Tests.{ne_eqb}
use lib.Dec.{eqb}

-- nothing is both
pub true-false : {A : Type 0} {b : Bool} → b ≡ true → b ≡ false → A
true-false {b = b} e f = let z : ◌≡◌ {A = ℕ} 0 1 = cc in absurd (omega arith)

pub both : (a b : Bool) → (a && b) ≡ true → (a ≡ true) × (b ≡ true)
both true b e = (refl, e)
both false b e = true-false e refl

pub neither : (a b : Bool) → (a || b) ≡ false → (a ≡ false) × (b ≡ false)
neither true b e = true-false refl e
neither false b e = (refl, e)

pub and-swapped : (a b : Bool) → (a && b) ≡ (b && a)
and-swapped true true = refl
and-swapped true false = refl
and-swapped false true = refl
and-swapped false false = refl

pub or-swapped : (a b : Bool) → (a || b) ≡ (b || a)
or-swapped true true = refl
or-swapped true false = refl
or-swapped false true = refl
or-swapped false false = refl

pub or_assoc : (a b c : Bool) → (a || (b || c)) ≡ ((a || b) || c)
or_assoc true b c = refl
or_assoc false b c = refl

pub or-over : (a b c : Bool) → (a || (b || c)) ≡ (b || (a || c))
or-over true true c = refl
or-over true false c = refl
or-over false b c = refl

pub eqb-sym : (m n : ℕ) → eqb m n ≡ eqb n m
eqb-sym m n = elim (ℕ_discrete m n) [ yes e ↦ rw e | no e ↦ rw (ne_eqb m n e, ne_eqb n m (λ f. e (sym f))) ]
