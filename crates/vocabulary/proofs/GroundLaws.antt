-- The first ground that holds is given, and no other; where grounds stand in the order of the listing, no ground that holds ranks before it.
-- Assumes nothing.
use Prim.Native.Nat.{◌≤◌}
use mathlib.Core.Path.{◌≡◌, refl}
use mathlib.Core.Bool.{Bool, true, false, cond}
use mathlib.Core.List.{List, [], ◌∷◌}
use native.Mathlib.Omega.{arith}
use borrow.Author.Tests.{leb-true}
use lib.Dec.{leb}
use Rattle.std.specs.Prelude.{Ok, Err}
use Rattle.vocabulary.specs.declared.refusal.Refusal.{Refusal}
use Rattle.vocabulary.specs.Refusals.{Ruling}
use Rattle.vocabulary.specs.Grounds.{Ground, rank_of, first, Earliest, none, here, later, ranked, Among, at_front, further}
use Rattle.arithmetic.proofs.Booleans.{true-false, both}

pub first_holds : (grounds : List Ground) → Earliest grounds (first grounds)
first_holds [] = none
first_holds (ground ∷ grounds) = go ground.holds refl (first_holds grounds)
  where
    go : (b : Bool) → ground.holds ≡ b → Earliest grounds (first grounds) → Earliest (ground ∷ grounds) (cond ground.holds (Err ground.refusal) (first grounds))
    go true e f = rw e (here refl)
    go false e f = rw e (later refl f)

pub only-first : {grounds : List Ground} {ruling : Ruling} → Earliest grounds ruling → ruling ≡ first grounds
only-first none = refl
only-first (here e) = rw e
only-first (later e r) = rw e (only-first r)

-- ---- ranks

ranked-rest : (ground : Ground) (grounds : List Ground) → ranked (ground ∷ grounds) ≡ true → ranked grounds ≡ true
ranked-rest ground [] e = refl
ranked-rest ground (next ∷ grounds) e = (both (leb (rank_of ground.refusal) (rank_of next.refusal)) (ranked (next ∷ grounds)) e).1

ranked-next : (ground next : Ground) (grounds : List Ground) → ranked (ground ∷ (next ∷ grounds)) ≡ true → rank_of ground.refusal ≤ rank_of next.refusal
ranked-next ground next grounds e =
    leb-true (rank_of ground.refusal) (rank_of next.refusal) (both (leb (rank_of ground.refusal) (rank_of next.refusal)) (ranked (next ∷ grounds)) e).0

-- the first of them ranks before all others
front-lowest : (ground other : Ground) (grounds : List Ground) → ranked (ground ∷ grounds) ≡ true → Among other grounds → rank_of ground.refusal ≤ rank_of other.refusal
front-lowest ground other [] e a = elim a [ ]
front-lowest ground other (next ∷ grounds) e at_front = ranked-next ground next grounds e
front-lowest ground other (next ∷ grounds) e (further a) =
    let l = front-lowest next other grounds (ranked-rest ground (next ∷ grounds) e) a in
    let m = ranked-next ground next grounds e in
    omega (arith, l, m)

-- No ground that holds ranks before the one that is given.
pub first-lowest : {grounds : List Ground} {refusal : Refusal} {other : Ground} → ranked grounds ≡ true → Earliest grounds (Err refusal) → Among other grounds → other.holds ≡ true
    → rank_of refusal ≤ rank_of other.refusal
first-lowest r (here {ground} {grounds} e) at_front h = omega arith
first-lowest {other = other} r (here {ground} {grounds} e) (further a) h = front-lowest ground other grounds r a
first-lowest r (later f x) at_front h = true-false h f
first-lowest r (later {ground} {grounds} f x) (further a) h = first-lowest (ranked-rest ground grounds r) x a h

-- Where nothing is refused, no ground holds.
pub accepted-lacks : {grounds : List Ground} {other : Ground} → Earliest grounds (Ok tt) → Among other grounds → other.holds ≡ true → ⊥
accepted-lacks none a h = elim a [ ]
accepted-lacks (later f x) at_front h = true-false h f
accepted-lacks (later f x) (further a) h = accepted-lacks x a h
