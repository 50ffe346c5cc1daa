-- `shares::largest::pick` meets its contract. The loop keeps the first largest of the remainders passed.
-- Assumes nothing.
use Rattle.std.proofs.Common.{rules}
use borrow.Author.Tests.{lt-ltb, le-ltb}
use native.Mathlib.Omega.{arith}
use native.Mathlib.Numerals.{add-one}
use mathlib.Core.Path.{◌≡◌, sym, ◌∙◌}
use Prim.Native.Nat.{ℕ, ◌+◌, ◌≤◌, ◌<◌, ◌-◌}
use mathlib.Core.List.{List}
use lib.ListN.{get_or}
use Rattle.shares.specs.Largest.{pick_of}
use Rattle.shares.proofs.largest.pick.Goals.{then-rests-best, else-rests-best}
use Rattle.shares.proofs.largest.pick.Goals as goal

module _ (rs : List ℕ) (i : ℕ) where
  further : get_or rs (pick_of rs i) 0 < get_or rs (i + 1) 0 → pick_of rs (i + 1) ≡ i + 1
  unfolding pick_of
  further h = rw (add-one, lt-ltb _ _ (rw add-one at h))

  same : get_or rs (i + 1) 0 ≤ get_or rs (pick_of rs i) 0 → pick_of rs (i + 1) ≡ pick_of rs i
  unfolding pick_of
  same h = rw (add-one, le-ltb _ _ (rw add-one at h))

pub loop-i-init : goal.loop-i-init
unfolding pick_of
loop-i-init c = search rules

pub loop-i-preserved : goal.loop-i-preserved
loop-i-preserved c =
    let l = c.loop-i in
    let rs = c.args.rests in
    let e : l.i - 1 + 1 ≡ l.i = omega arith in
    let f : l.i + 1 - 1 ≡ l.i = omega arith in
    elim c.if-rests-best.branch [
      | then-rests-best w ↦ rw (f, w.best-is) (sym (rw e at (further rs (l.i - 1) (rw (e, ← l.invariant.0) w.if-rests-best.true))), omega arith)
      | else-rests-best w ↦ rw (f, w.best-is) (l.invariant.0 ∙ sym (rw e at (same rs (l.i - 1) (rw (e, ← l.invariant.0) w.if-rests-best.false))), omega arith)
    ]

pub returns : goal.returns
returns c =
    let l = c.loop-i in
    let e : l.i - 1 ≡ 31 = omega arith in
    (rw e at l.invariant.0, omega arith)
