-- A sample that does not fall short of the inner bound has the same slices of the bound and of what is kept, so that it can be left out of both: the
-- differences of the pieces are the same with it and without it.
-- Assumes nothing.
use Rattle.std.proofs.Common.{◌≡◌, ℕ, ◌+◌, ◌-◌, ◌^◌, ◌<◌, ◌≤◌, Bool, true, false, cond, ltb, List, [], ◌∷◌, ◌++◌, length, drop, refl, add-one, arith, ltb-false}
use Rattle.series.specs.Sums.{over_of, sum_of}
use Rattle.series.specs.Slices.{slice_of}
use Rattle.series.specs.Scan.{outputs, each}
use Rattle.series.specs.Cuts.{Cut, sliced_in, cuts_of, last_of, no_sums, pieces_of}
use Rattle.series.proofs.Whole.{pieces_exact}
use Rattle.values.specs.declared.part.Part.{Part}
use Rattle.values.specs.declared.value.Quantity.{Quantity}
use Rattle.values.specs.declared.value.Quantity.TheVariants.{Inner, Kept}
use Rattle.values.specs.Part.{amount_of}
use Rattle.claims.specs.Views.{shorts_of, less_at, less_of, short_of}
use Rattle.claims.proofs.Portions.{kept-le, less-shift}

-- ---- sums over the samples that fall short

abbrev inners : List Part → List ℕ
inners = each (amount_of Inner)

abbrev keeps : List Part → List ℕ
keeps = each (amount_of Kept)

-- where nothing is short, both are one power
level : (p : Part) → ltb (amount_of Kept p) (amount_of Inner p) ≡ false → amount_of Kept p ≡ amount_of Inner p
level p e = omega (arith, kept-le p, ltb-false (amount_of Kept p) (amount_of Inner p) e)

module _ (f : ℕ → ℕ) where
  one-short : (b : Bool) (p : Part) (ps : List Part) → ltb (amount_of Kept p) (amount_of Inner p) ≡ b
      → over_of f (inners (shorts_of ps)) + over_of f (keeps ps) ≡ over_of f (inners ps) + over_of f (keeps (shorts_of ps))
      → over_of f (inners (cond b (p ∷ shorts_of ps) (shorts_of ps))) + over_of f (keeps (p ∷ ps))
      ≡ over_of f (inners (p ∷ ps)) + over_of f (keeps (cond b (p ∷ shorts_of ps) (shorts_of ps)))
  unfolding over_of each
  one-short true p ps e same = omega (arith, same)
  one-short false p ps e same = rw (level p e) (omega (arith, same))

  -- both lose the same by what is left out
  same_left : (ps : List Part) → over_of f (inners (shorts_of ps)) + over_of f (keeps ps) ≡ over_of f (inners ps) + over_of f (keeps (shorts_of ps))
  unfolding shorts_of
  same_left [] = refl
  same_left (p ∷ ps) = one-short (ltb (amount_of Kept p) (amount_of Inner p)) p ps refl (same_left ps)

  -- so the differences are the same
  same-less : (ps : List Part) → over_of f (inners (shorts_of ps)) - over_of f (keeps (shorts_of ps)) ≡ over_of f (inners ps) - over_of f (keeps ps)
  same-less ps = omega (arith, same_left ps)

-- and neither sum is more than that of all
one_fewer_lem : (q : Quantity) (b : Bool) (p : Part) (ps : List Part) → sum_of (each (amount_of q) (shorts_of ps)) ≤ sum_of (each (amount_of q) ps)
    → sum_of (each (amount_of q) (cond b (p ∷ shorts_of ps) (shorts_of ps))) ≤ sum_of (each (amount_of q) (p ∷ ps))
unfolding over_of each
one_fewer_lem q true p ps h = omega (arith, h)
one_fewer_lem q false p ps h = omega (arith, h)

fewer : (q : Quantity) (ps : List Part) → sum_of (each (amount_of q) (shorts_of ps)) ≤ sum_of (each (amount_of q) ps)
unfolding shorts_of
fewer q [] = omega arith
fewer q (p ∷ ps) = one_fewer_lem q (ltb (amount_of Kept p) (amount_of Inner p)) p ps (fewer q ps)

-- ---- the pieces

-- differences by place
less-cuts : (a b c d : List ℕ) → ((t : Cut) → sliced_in a t - sliced_in b t ≡ sliced_in c t - sliced_in d t) → (cs : List Cut) (rest : List ℕ)
    → less_of (each (sliced_in a) cs ++ rest) (each (sliced_in b) cs ++ rest) ≡ less_of (each (sliced_in c) cs ++ rest) (each (sliced_in d) cs ++ rest)
unfolding each outputs less_at
less-cuts a b c d h [] rest = refl
less-cuts a b c d h (t ∷ cs) rest =
    rw (
      h t,
      add-one 0,
      less-shift (sliced_in b t) (each (sliced_in b) cs ++ rest) 0 (each (sliced_in a) cs ++ rest),
      less-shift (sliced_in d t) (each (sliced_in d) cs ++ rest) 0 (each (sliced_in c) cs ++ rest),
      less-cuts a b c d h cs rest,
    )

module _ (limits : List ℕ) (ps : List Part) (inner-fits : sum_of (inners ps) < 2 ^ 64) (kept-fits : sum_of (keeps ps) < 2 ^ 64) where
  pub shorts-pieces : short_of (pieces_of limits (inners (shorts_of ps))) (pieces_of limits (keeps (shorts_of ps))) ≡ short_of (pieces_of limits (inners ps)) (pieces_of limits (keeps ps))
  shorts-pieces =
      let sums = less-cuts (inners (shorts_of ps)) (keeps (shorts_of ps)) (inners ps) (keeps ps) (λ (t : Cut). same-less (slice_of t.low t.high) ps) (cuts_of limits)
      (drop (length limits) no_sums) in
      let rest = same-less (λ v. v - last_of limits) ps in
      rw (
        pieces_exact limits (inners (shorts_of ps)) (omega (arith, fewer Inner ps)),
        pieces_exact limits (keeps (shorts_of ps)) (omega (arith, fewer Kept ps)),
        pieces_exact limits (inners ps) inner-fits,
        pieces_exact limits (keeps ps) kept-fits,
        sums,
        rest,
      )
