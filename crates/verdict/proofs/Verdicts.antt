-- The verdict on shares: it accepts exactly where all quarter hours and directions are acceptable, and names the first that is not otherwise.
-- Assumes nothing.
use Prim.Native.Nat.{ℕ, zero, suc, ◌<◌}
use mathlib.Core.Path.{◌≡◌, refl}
use mathlib.Core.Bool.{Bool, true, false, cond}
use mathlib.Core.List.{List, [], ◌∷◌, ◌++◌}
use native.Mathlib.Omega.{arith}
use native.Mathlib.Decide.{dec_lt}
use lib.IntN.{ℤ}
use Rattle.arithmetic.proofs.Booleans.{true-false}
use Rattle.shares.proofs.Acceptance.{tested-acceptable, acceptable-tested}
use Rattle.vocabulary.specs.declared.direction.Direction.{Direction}
use Rattle.vocabulary.specs.declared.direction.Direction.TheVariants.{Positive, Negative}
use Rattle.meaning.specs.Given.{Given, quarters_in}
use Rattle.sheets.specs.declared.verdict.Verdict.{Verdict}
use Rattle.sheets.specs.declared.verdict.Verdict.TheVariants.{Accepted, Failing}
use Rattle.verdict.specs.Wanted.{surplus_in, gaps_in, shares_at, AcceptableAt, acceptable_at, Side, side, sides_up_to, first_failing, verdict_of}
use Rattle.verdict.specs.Promises.{AllAcceptable, Before, earlier, first, FirstFailing}

-- what comes first counts
abbrev or_else : Verdict → Verdict → Verdict
or_else (Accepted quarters) next = next
or_else (Failing q d) next = Failing q d

module _ (g : Given) (shares : List ℤ) where
  -- a direction of a quarter hour is acceptable, as it is tested and as it is said
  holds : (q : ℕ) (d : Direction) → acceptable_at g shares q d ≡ true → AcceptableAt g shares q d
  holds q d e = tested-acceptable (surplus_in d g q) (gaps_in d g q) (shares_at d g q shares) e

  fails : (q : ℕ) (d : Direction) → acceptable_at g shares q d ≡ false → AcceptableAt g shares q d → ⊥
  fails q d e a = true-false (acceptable-tested (surplus_in d g q) (gaps_in d g q) (shares_at d g q shares) a) e

  first-join : (xs ys : List Side) → first_failing g shares (xs ++ ys) ≡ or_else (first_failing g shares xs) (first_failing g shares ys)
  unfolding first_failing
  first-join [] ys = refl
  first-join (x ∷ xs) ys = go (acceptable_at g shares x.quarter x.direction) (first-join xs ys)
    where
      go : (t : Bool) → first_failing g shares (xs ++ ys) ≡ or_else (first_failing g shares xs) (first_failing g shares ys)
          → cond t (first_failing g shares (xs ++ ys)) (Failing x.quarter x.direction)
          ≡ or_else (cond t (first_failing g shares xs) (Failing x.quarter x.direction)) (first_failing g shares ys)
      go true e = e
      go false e = refl

  -- what the first n quarter hours come to
  data Found (n : ℕ) (v : Verdict) : Type 0 where
    all_hold : v ≡ Accepted (quarters_in g) → ((q : ℕ) → q < n → (d : Direction) → AcceptableAt g shares q d) → Found n v
    one-fails : (q : ℕ) (d : Direction) → v ≡ Failing q d → q < n → (AcceptableAt g shares q d → ⊥) → ((p : ℕ) (c : Direction) → Before p c q d → AcceptableAt g shares p c) → Found n v

  found : (n : ℕ) → Found n (first_failing g shares (sides_up_to n))
  unfolding sides_up_to first_failing
  found zero = all_hold refl (λ q h. absurd (omega arith))
  found (suc n) = rw (first-join (sides_up_to n) (side n Positive ∷ side n Negative ∷ [])) (next (first_failing g shares (sides_up_to n)) (found n))
    where
      next : (v : Verdict) → Found n v → Found (suc n) (or_else v (first_failing g shares (side n Positive ∷ side n Negative ∷ [])))
      next v (one-fails q d e h x before) = rw e (one-fails q d refl (omega arith) x before)
      next v (all_hold e all) = rw e (go (acceptable_at g shares n Positive) refl (acceptable_at g shares n Negative) refl)
        where
          go : (s : Bool) → acceptable_at g shares n Positive ≡ s → (t : Bool) → acceptable_at g shares n Negative ≡ t
              → Found (suc n) (cond s (cond t (Accepted (quarters_in g)) (Failing n Negative)) (Failing n Positive))
          go true a true b = all_hold refl (λ q h. all_of q (dec_lt q n) (omega arith))
            where
              both : (q : ℕ) → q ≡ n → (d : Direction) → AcceptableAt g shares q d
              both q e Positive = rw e (holds n Positive a)
              both q e Negative = rw e (holds n Negative b)

              all_of : (q : ℕ) → Dec (q < n) → q < suc n → (d : Direction) → AcceptableAt g shares q d
              all_of q (yes h) l = all q h
              all_of q (no h) l = both q (omega arith)
          go true a false b = one-fails n Negative refl (omega arith) (fails n Negative b) before
            where
              before : (p : ℕ) (c : Direction) → Before p c n Negative → AcceptableAt g shares p c
              before p c (earlier h) = all p h c
              before p c first = holds n Positive a
          go false a t b = one-fails n Positive refl (omega arith) (fails n Positive a) before
            where
              before : (p : ℕ) (c : Direction) → Before p c n Positive → AcceptableAt g shares p c
              before p c (earlier h) = all p h c

  -- ACCEPTED exactly if all are acceptable
  pub verdict-accepts : AllAcceptable g shares → verdict_of g shares ≡ Accepted (quarters_in g)
  unfolding verdict_of
  verdict-accepts all = go (first_failing g shares (sides_up_to (quarters_in g))) (found (quarters_in g))
    where
      go : (v : Verdict) → Found (quarters_in g) v → v ≡ Accepted (quarters_in g)
      go v (all_hold e h) = e
      go v (one-fails q d e h x before) = absurd (x (all q h d))

  pub accepted-holds : (n : ℕ) → verdict_of g shares ≡ Accepted n → AllAcceptable g shares
  unfolding verdict_of
  accepted-holds n = go (first_failing g shares (sides_up_to (quarters_in g))) (found (quarters_in g))
    where
      go : (v : Verdict) → Found (quarters_in g) v → v ≡ Accepted n → AllAcceptable g shares
      go v (all_hold e h) a = h
      go v (one-fails q d e h x before) a = cc

  -- otherwise the first that is not
  pub failing-first : (q : ℕ) (d : Direction) → verdict_of g shares ≡ Failing q d → FirstFailing g shares q d
  unfolding verdict_of
  failing-first q d = go (first_failing g shares (sides_up_to (quarters_in g))) (found (quarters_in g))
    where
      go : (v : Verdict) → Found (quarters_in g) v → v ≡ Failing q d → FirstFailing g shares q d
      go v (all_hold e h) a = cc
      go v (one-fails p c e h x before) a =
          let q' : p ≡ q = cc in
          let d' : c ≡ d = cc in
          rw (← q', ← d') (record { within = h; fails = x; others = before })
