-- A quantity of a sample in the words of the rules is the amount that the code computes; and how far the sums over a quarter hour reach.
-- Assumes nothing.
use Rattle.std.proofs.Common.{◌≡◌, ℕ, zero, suc, ◌+◌, ◌*◌, ◌^◌, ◌<◌, ◌≤◌, List, [], ◌∷◌, length, get_or, ℤ, pos, sym, refl, ap, ◌∙◌, mul-le-mul_right, mul_assoc, mul-le-mul_left, zero-add, arith, ext_get_or}
use Rattle.arithmetic.specs.Whole.{up}
use Rattle.arithmetic.proofs.Signed.{up_pos}
use Rattle.series.specs.Sums.{over_of, sum_of}
use Rattle.series.specs.Scan.{outputs, each}
use Rattle.series.proofs.Scanned.{each-length, each-outputs, outputs-length}
use Rattle.vocabulary.specs.declared.direction.Direction.{Direction}
use Rattle.vocabulary.specs.declared.direction.Direction.TheVariants.{Positive, Negative}
use Rattle.values.specs.declared.value.Quantity.{Quantity}
use Rattle.values.specs.declared.value.Quantity.TheVariants.{Actual}
use Rattle.values.specs.Part.{part_of, amount_of}
use Rattle.values.proofs.Written.{written}
use Rattle.values.proofs.Small.{amount-small}
use Rattle.claims.specs.Powers.{Samples, next, power_at, powers_of}
use Rattle.claims.specs.Views.{part_at, parts_of, delivered_of}
use Rattle.claims.specs.Room.{Timely, Fitting, Small}
use Rattle.claims.proofs.Joining.{each_in, along}

pub power-is : (d : Direction) (x : Samples) (q : Quantity) (i : ℕ) (s : ℤ) → power_at d x q i s ≡ amount_of q (part_at d x i s)
unfolding power_at
power-is d x q i s =
    ap up (written q d s (get_or x.actuals i (pos 0)) (get_or x.ogas i (pos 0)) (get_or x.ugas i (pos 0))) ∙ up_pos (amount_of q (part_at d x i s))

-- the powers are the amounts of the parts
amounts : (d : Direction) (x : Samples) (q : Quantity) (i : ℕ) (ss : List ℤ) → outputs next (λ k s. amount_of q (part_at d x k s)) i ss ≡ outputs next (power_at d x q) i ss
unfolding outputs
amounts d x q i [] = refl
amounts d x q i (s ∷ ss) = rw (amounts d x q (i + 1) ss, power-is d x q i s)

pub powers-are : (d : Direction) (x : Samples) (q : Quantity) → each (amount_of q) (parts_of d x) ≡ powers_of d x q
powers-are d x q = each-outputs (amount_of q) next (part_at d x) 0 x.setpoints ∙ amounts d x q 0 x.setpoints

-- and of the actual they are what was delivered, which no other number of the samples bears on
delivered-part : (d : Direction) (s a oga uga : ℤ) → delivered_of d a ≡ amount_of Actual (part_of d s a oga uga)
delivered-part Positive s a oga uga = refl
delivered-part Negative s a oga uga = refl

module _ (d : Direction) (x : Samples) (level : length x.actuals ≡ length x.setpoints) where
  delivered-at : (k : ℕ) → k < length (each (delivered_of d) x.actuals) → get_or (each (delivered_of d) x.actuals) k 0 ≡ get_or (powers_of d x Actual) k 0
  delivered-at k b =
      let n : k < length x.actuals = omega (arith, each-length (delivered_of d) x.actuals) in
      let s = get_or x.setpoints k (pos 0) in
      rw (
        each_in (delivered_of d) x.actuals k (pos 0) 0 n,
        along (power_at d x Actual) 0 x.setpoints k (pos 0) 0 (omega arith),
        zero-add k,
        power-is d x Actual k s,
      )
      (delivered-part d s (get_or x.actuals k (pos 0)) (get_or x.ogas k (pos 0)) (get_or x.ugas k (pos 0)))

  pub powers-delivered : each (delivered_of d) x.actuals ≡ powers_of d x Actual
  powers-delivered =
      ext_get_or 0 (each (delivered_of d) x.actuals) (powers_of d x Actual)
      (each-length (delivered_of d) x.actuals ∙ level ∙ sym (outputs-length next (power_at d x Actual) 0 x.setpoints)) delivered-at

-- ---- the sums of a quarter hour fit

sum-small : (l : List ℕ) → ((k : ℕ) → k < length l → get_or l k 0 ≤ 2 ^ 44) → sum_of l ≤ length l * 2 ^ 44
unfolding over_of
sum-small [] h = omega arith
sum-small (v ∷ l) h = omega (arith, h zero (omega arith), sum-small l (λ k b. h (suc k) (omega arith)))

few-enough : (seconds n : ℕ) (powers : List ℕ) → n ≤ 900 → seconds * n ≤ 900 → sum_of powers ≤ n * 2 ^ 44 → Small seconds powers
few-enough seconds n powers few quarter b =
    record {
      held = omega (arith, mul-le-mul_left seconds b, mul_assoc seconds n (2 ^ 44), mul-le-mul_right (2 ^ 44) quarter);
      plain = omega arith;
    }

module _ (d : Direction) (x : Samples) (seconds : ℕ) (t : Timely x seconds) (fit : Fitting x.setpoints x.actuals (length x.setpoints)) where
  small_at : (q : Quantity) (k : ℕ) → k < length (powers_of d x q) → get_or (powers_of d x q) k 0 ≤ 2 ^ 44
  small_at q k b =
      let h : k < length x.setpoints = omega (arith, outputs-length next (power_at d x q) 0 x.setpoints) in
      let s = get_or x.setpoints k (pos 0) in
      rw (along (power_at d x q) 0 x.setpoints k (pos 0) 0 h, zero-add k, power-is d x q k s)
      (amount-small d s (get_or x.actuals k (pos 0)) (get_or x.ogas k (pos 0)) (get_or x.ugas k (pos 0)) (fit k h).0 (fit k h).1 (t.within k h) q)

  pub smalls : (q : Quantity) → Small seconds (powers_of d x q)
  smalls q =
      few-enough seconds (length x.setpoints) (powers_of d x q) t.level.few t.quarter
      (rw (outputs-length next (power_at d x q) 0 x.setpoints) at (sum-small (powers_of d x q) (small_at q)))
