-- The first tab after a place is where the field that starts there ends.
use Rattle.std.specs.Prelude.{nat_eq}
use Rattle.std.proofs.Common.{ℕ, ◌+◌, ◌≤◌, ◌≡◌, refl, Bool, true, false, not, cond, Option, Some, None, List, [], ◌∷◌, length, nat_lt, arith}
use Rattle.std.specs.Option.{MatchOption}
use Rattle.std.specs.List.{position, position_or_len}
use borrow.Author.Tests.{ltb-false}
use lib.ListN.{drop, length-drop}
use Rattle.fields.specs.Split.{until_tab, Ends}
use Rattle.fields.proofs.FieldLaws.{until-fits, ends_at}

to_tab : (l : List ℕ) → position_or_len (λ (x : ℕ). nat_eq x 9) l ≡ length (until_tab l)
unfolding until_tab
to_tab [] = refl
to_tab (x ∷ xs) = by (nat_eq x 9) (to_tab xs)
  where
    by : (b : Bool) → position_or_len (λ (x : ℕ). nat_eq x 9) xs ≡ length (until_tab xs) → cond (not b) (1 + position_or_len (λ (x : ℕ). nat_eq x 9) xs) 0 ≡ length (cond b [] (x ∷ until_tab xs))
    by true e = refl
    by false e = omega (arith, e)

-- what `position` finds from a place on is where the field ends
module _ (s : List ℕ) (a : ℕ) (h : a ≤ length s) where
  told : (b : Bool) (q : ℕ) → q ≡ length (until_tab (drop a s)) → nat_lt q (length (drop a s)) ≡ b → (r : Option ℕ) → r ≡ cond b (Some q) None → MatchOption r (Ends s a (length s)) (λ n. Ends s a (a + n))
  told true q at t r e = rw (e, at) (ends_at s a h)
  told false q at t r e =
      let far : length (drop a s) ≤ q = ltb-false _ _ t in
      let end : a + length (until_tab (drop a s)) ≡ length s = omega (arith, far, at, until-fits (drop a s), length-drop a s) in
      let ends = ends_at s a h in
      rw e (rw end at ends)

  pub ends_where : (r : Option ℕ) → r ≡ position (λ (x : ℕ). nat_eq x 9) (drop a s) → MatchOption r (Ends s a (length s)) (λ n. Ends s a (a + n))
  ends_where r e = told _ _ (to_tab (drop a s)) refl r e
