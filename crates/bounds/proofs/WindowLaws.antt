-- Two windows that touch or overlap are one: the farther out of what each of them reaches is what both together reach.
-- Assumes nothing.
use mathlib.Core.Path.{◌≡◌, ap₂, ◌∙◌}
use mathlib.Core.List.{List}
use mathlib.Core.Logic.{⊎_elim}
use Prim.Native.Nat.{ℕ, zero, suc, ◌+◌, ◌-◌, ◌≤◌, ◌<◌}
use native.Mathlib.Omega.{arith}
use native.Mathlib.Nat.{add-zero, zero-add, eq-zero-or-pos}
use lib.IntN.{ℤ}
use Rattle.series.specs.Places.{Fills}
use Rattle.bounds.specs.declared.side.Side.{Side}
use Rattle.bounds.specs.Windows.{over}
use Rattle.bounds.specs.Side.{farther_of}
use Rattle.bounds.specs.Widening.{back_at, ending_at, either_at, Reaching}
use Rattle.bounds.proofs.Outside.{outside-both, outside_trans, farther-outside, farther-outside-second, farther-least, over-all, over-least}

module _ (side : Side) (f : ℕ → ℤ) where
  -- a window of n, and one of m that begins j later: they touch, and the second ends no earlier
  over-join : (from n j m : ℕ) → j ≤ suc n → n ≤ j + m
      → farther_of side (over (farther_of side) f from n) (over (farther_of side) f (from + j) m) ≡ over (farther_of side) f from (j + m)
  over-join from n j m touch last =
      let a = over (farther_of side) f from n in
      let b = over (farther_of side) f (from + j) m in
      let c = over (farther_of side) f from (j + m) in
      let d = farther_of side a b in
      outside-both side d c
      (over-least side f d from (j + m) (λ i l.
      ⊎_elim
      (λ (e : i - n ≡ 0). outside_trans side d a (f (from + i)) (farther-outside side a b) (over-all side f from n i (omega arith)))
      (λ (e : 0 < i - n).
      let q : from + j + (i - j) ≡ from + i = omega arith in
      outside_trans side d b (f (from + i)) (farther-outside-second side a b) (rw q at (over-all side f (from + j) m (i - j) (omega arith))))
      (eq-zero-or-pos (i - n))))
      (farther-least side c a b
      (over-least side f c from n (λ i l. over-all side f from (j + m) i (omega arith)))
      (over-least side f c (from + j) m (λ i l.
      let q : from + (j + i) ≡ from + j + i = omega arith in
      rw q at (over-all side f from (j + m) (j + i) (omega arith)))))

-- a window read from another start
over-shift : (op : ℤ → ℤ → ℤ) (f g : ℕ → ℤ) (a b n : ℕ) → ((k : ℕ) → f (a + k) ≡ g (b + k)) → over op f a n ≡ over op g b n
unfolding over
over-shift op f g a b zero h = rw (add-zero a, add-zero b) at (h 0)
over-shift op f g a b (suc n) h = ap₂ op (over-shift op f g a b n h) (h (suc n))

module _ (op : ℤ → ℤ → ℤ) (line : List ℤ) (place d n : ℕ) where
  -- the window that ends d places earlier is the one that begins d places back
  pub earlier : over op (back_at line (place - d)) 0 n ≡ over op (back_at line place) d n
  unfolding back_at
  earlier =
      over-shift op (back_at line (place - d)) (back_at line place) 0 d n
      (λ k. let q : place - d - (0 + k) ≡ place - (d + k) = omega arith in rw q)

-- windows of w that end d places apart make windows of w + d
module _ (side : Side) (line xs ys : List ℤ) (w d n : ℕ) (some : 0 < w) (near : d ≤ w) where
  pub widens : Reaching side line w n xs → Fills (either_at side xs d) (w + d - 1) n ys → Reaching side line (w + d) n ys
  unfolding either_at ending_at
  widens r t =
      record {
        at = λ k a b.
            let e : d + (w - 1) ≡ w + d - 1 = omega arith in
            let j = rw (zero-add d, e) at (over-join side (back_at line k) 0 (w - 1) d (w - 1) (omega arith) (omega arith)) in
            let m : either_at side xs d k ≡ ending_at side line (w + d) k =
            rw (r.at k (omega arith) b, r.at (k - d) (omega arith) (omega arith), earlier (farther_of side) line k d (w - 1)) j in
            t.at k a b ∙ m;
      }

-- each setpoint is its own window of one
pub alone : (side : Side) (line : List ℤ) (n : ℕ) → Reaching side line 1 n line
unfolding ending_at back_at over
alone side line n = record { at = λ k a b. let e : k - 0 ≡ k = omega arith in rw e }
