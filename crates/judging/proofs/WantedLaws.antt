-- How many U lines are wanted, and which quarter hour one says.
-- Assumes nothing.
use Prim.Native.Nat.{ℕ, zero, suc, ◌*◌, ◌<◌, ◌≤◌}
use mathlib.Core.Path.{◌≡◌, refl}
use mathlib.Core.Bool.{Bool, true}
use mathlib.Core.List.{List}
use native.Mathlib.Omega.{arith}
use native.Mathlib.Nat.{mul-zero, mul-le-mul}
use borrow.Author.Tests.{ltb-true, le-ltb}
use lib.Dec.{eqb, ltb}
use lib.IntN.{ℤ, pos, negsuc}
use lib.Signed.{lt_z}
use mir.Syntax.{w32}
use mir.Val.{SFits}
use Rattle.std.specs.Prelude.{nat_abs, ◌^◌, Result, Ok, Err}
use Rattle.std.specs.Result.{result_eq, OkIff}
use Rattle.std.specs.Int.{FitsUnsignedBits}
use Rattle.arithmetic.specs.Whole.{up, least_of}
use Rattle.contracts.specs.Book.{held_of}
use Rattle.arithmetic.proofs.Signed.{fits-up}
use Rattle.arithmetic.proofs.Booleans.{both}
use Rattle.contracts.specs.declared.books.Books.{Books}
use Rattle.reading.specs.declared.share.Share.{Share}
use Rattle.judging.specs.Wanted.{wanted_in, per_quarter, place_in, is_quarter, says_place, is_wanted}

-- where one is wanted, a quarter hour has some
pub some-wanted : (q n given : ℕ) → given < q * n → 0 < n
some-wanted q zero given h = absurd (omega (arith, h, mul-zero q))
some-wanted q (suc n) given h = omega arith

-- the one that is wanted is one of them
pub among : (books : Books) (quarters n : ℕ) (share : Share) (identifier : List ℕ) → is_wanted books quarters n share identifier ≡ true → n < wanted_in books quarters
unfolding is_wanted
among books quarters n share identifier e =
    ltb-true n (wanted_in books quarters) (both (ltb n (wanted_in books quarters)) (says_place books (place_in books n) share identifier) e).0

-- a quarter hour that is said, as it is tested: a number below 0 is none
module _ {E : Type 0} (same : E → E → Bool) (quarter : ℕ) where
  pub quarter-told : (said : ℤ) (r : Result ℕ E) → SFits w32 said → OkIff r (FitsUnsignedBits 64 said) (nat_abs said) → result_eq eqb same r (Ok quarter) ≡ is_quarter said quarter
  unfolding is_quarter up
  quarter-told (pos n) (Ok x) fits o = rw (le-ltb n 0 (omega arith), o.1)
  quarter-told (pos n) (Err e) fits o = absurd (o (omega (arith, fits-up w32 (pos n) fits)))
  quarter-told (negsuc n) (Ok x) fits o = absurd o.0
  quarter-told (negsuc n) (Err e) fits o = refl

-- how many there can be
pub few-wanted : (books : Books) (quarters : ℕ) → quarters ≤ 255 → wanted_in books quarters ≤ 255 * 64
unfolding wanted_in held_of least_of
few-wanted books quarters day =
    let few : per_quarter books ≤ 64 = omega arith in
    omega (arith, mul-le-mul day few)
