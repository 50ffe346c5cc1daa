-- A run without the powers of its samples: samples whose powers are put in their places at once are all taken, as they would be one by one.
-- Assumes nothing.
use Prim.Native.Nat.{ℕ, suc, ◌+◌, ◌-◌, ◌≤◌}
use native.Mathlib.Omega.{arith}
use mathlib.Core.Path.{◌≡◌, refl, sym, ap, ◌∙◌}
use mathlib.Core.Bool.{Bool, true, false, cond}
use mathlib.Core.List.{List, [], ◌∷◌}
use lib.Dec.{eqb, leb}
use lib.IntN.{ℤ}
use lib.ListN.{length}
use lib.Seq.{sets}
use Rattle.vocabulary.specs.Refusals.{accepted}
use Rattle.claims.specs.Claims.{samples_of}
use Rattle.claims.proofs.Quarters.{samples-few}
use Rattle.records.specs.Tape.{longer, rewound, samples_in}
use Rattle.settlement.specs.declared.bare.Bare.{Bare}
use Rattle.settlement.specs.declared.run.Run.{Run}
use Rattle.settlement.specs.Run.{sampled, take_ground, settled_of, quarter_in, taken_of}
use Rattle.settlement.specs.Many.{room_of, many_of}
use Rattle.settlement.specs.Bare.{bare_of, whole_of, with_more}
use Rattle.settlement.proofs.Many.{Ranged, with_all, all-taken}

-- there is never room for more than there are places
pub room-few : (run : Run) → room_of run ≤ 900 - run.tape.filled
unfolding room_of samples_of
room-few run = go (eqb run.load.left 0) (leb run.plan.quarters run.account.taken) (samples-few run.past.interval)
  where
    go : (b c : Bool) {n : ℕ} → n ≤ 900 → cond b (cond c 0 (n - run.tape.filled)) 0 ≤ 900 - run.tape.filled
    go true true h = omega arith
    go true false h = omega (arith, h)
    go false c h = omega arith

-- taking leaves the powers where they are
pub taken-whole : (run : Run) → whole_of (bare_of (taken_of run).run) run.tape.setpoints run.tape.actuals ≡ (taken_of run).run
unfolding taken_of settled_of rewound
taken-whole run = go (accepted (take_ground run))
  where
    go : (b : Bool) → let after = cond b (settled_of run (quarter_in run)) run in whole_of (bare_of after) run.tape.setpoints run.tape.actuals ≡ after
    go true = refl
    go false = refl

-- put at once, powers stand as they would one after the other
at_once : (bare : Bare) (sp ac xs ys : List ℤ) → length xs ≡ length ys
    → whole_of (with_more bare (length xs)) (sets sp bare.filled xs) (sets ac bare.filled ys) ≡ with_all (whole_of bare sp ac) (samples_in xs ys)
unfolding samples_in sampled longer
at_once bare sp ac [] [] e = let same : bare.filled + 0 ≡ bare.filled = omega arith in rw (same)
at_once bare sp ac [] (y ∷ ys) e = absurd (omega (arith, e))
at_once bare sp ac (x ∷ xs) [] e = absurd (omega (arith, e))
at_once bare sp ac (x ∷ xs) (y ∷ ys) e =
    let next : bare.filled + 1 ≡ suc bare.filled = omega arith in
    let filled : bare.filled + suc (length xs) ≡ bare.filled + 1 + length xs = omega arith in
    rw (filled, ← next) (at_once (bare_of (sampled (whole_of bare sp ac) x y)) _ _ xs ys (omega (arith, e)))

-- SAMPLES IN RANGE, no more than there is room for, are all taken
pub put-taken : (bare : Bare) (sp ac xs ys : List ℤ) → length xs ≡ length ys → Ranged (samples_in xs ys) → length (samples_in xs ys) ≤ room_of (whole_of bare sp ac)
    → (many_of (whole_of bare sp ac) (samples_in xs ys)).run ≡ whole_of (with_more bare (length xs)) (sets sp bare.filled xs) (sets ac bare.filled ys)
put-taken bare sp ac xs ys e r few = ap (λ a. a.run) (all-taken (whole_of bare sp ac) r few) ∙ sym (at_once bare sp ac xs ys e)
