-- A block that a run hands on is acceptable to the next.
-- Assumes nothing.
use Prim.Native.Nat.{ℕ, zero, suc, ◌+◌, ◌-◌, ◌*◌, ◌≤◌, ◌<◌}
use mathlib.Core.Path.{◌≡◌, refl, ◌∙◌}
use mathlib.Core.Bool.{true}
use mathlib.Core.List.{List, [], ◌∷◌, ◌++◌}
use native.Mathlib.Omega.{arith}
use native.Mathlib.Nat.{zero-mul}
use lib.IntN.{ℤ, pos, negsuc, ◌+ℤ◌, ◌-ℤ◌}
use lib.Signed.{le_z}
use lib.ListN.{length, get_or}
use Rattle.arithmetic.specs.Whole.{up, down, max_z, min_z, within_of}
use Rattle.arithmetic.specs.Power.{units_of}
use Rattle.arithmetic.proofs.Booleans.{both}
use Rattle.arithmetic.proofs.Signed.{le-true, true-le, up_pos, down_pos, up-mul, down-mul, add-law, sub-lawℤ, max_ind, min_ind, max-left, min-left, down-zero}
use Rattle.arithmetic.proofs.Parts.{up-order, down-order}
use Rattle.vocabulary.specs.declared.interval.Interval.{Interval}
use Rattle.vocabulary.specs.Interval.{windows_of}
use Rattle.vocabulary.specs.Sample.{power_in_range}
use Rattle.bounds.specs.declared.side.Side.{Side}
use Rattle.bounds.specs.declared.side.Side.TheVariants.{Upper, Lower}
use Rattle.bounds.specs.Windows.{over, spread_of, gradient_of}
use Rattle.bounds.specs.Side.{farther_of, bound_of}
use Rattle.bounds.proofs.Sides.{farther-ind}
use Rattle.channel.specs.Start.{Start, fresh, carried, carried_by}
use Rattle.channel.specs.Backward.{series_after, first, past, before, past_from, oga_of, uga_of}
use Rattle.channel.specs.Block.{back_to, block_of}
use Rattle.channel.specs.Acceptable.{bound_in_range, all_in_range, newest_of, Acceptable, AcceptableStart}
use Rattle.channel.proofs.Back.{some_back, back-length}
use Rattle.channel.proofs.Sides.{held_of, held_before, Known, held_first, held-later}
use Rattle.channel.proofs.Enclosed.{oga_of-outside, uga_of-outside}

-- a number of magnitude n at most
pub record Small (n : ℕ) (z : ℤ) : Type 0 where
  pub above : up z ≤ n
  pub below : down z ≤ n

-- ---- ranges as magnitudes

up-below : (n : ℕ) → up (negsuc n) ≡ 0
unfolding up
up-below n = refl

down-below : (n : ℕ) → down (negsuc n) ≡ suc n
unfolding down
down-below n = refl

module _ (n : ℕ) (z : ℤ) where
  within-small : within_of (negsuc n) z (pos (suc n)) ≡ true → Small (suc n) z
  unfolding within_of
  within-small e =
      let t = both (le_z (negsuc n) z) (le_z z (pos (suc n))) e in
      record {
        above = rw (up_pos (suc n)) at (up-order z (pos (suc n)) (le-true z (pos (suc n)) t.1));
        below = rw (down-below n) at (down-order (negsuc n) z (le-true (negsuc n) z t.0));
      }

  small-within : Small (suc n) z → within_of (negsuc n) z (pos (suc n)) ≡ true
  unfolding within_of
  small-within s =
      rw (true-le (negsuc n) z (omega (arith, up-below n, down-below n)), true-le z (pos (suc n)) (omega (arith, up_pos (suc n), down_pos (suc n))))

pub power_small : (z : ℤ) → power_in_range z ≡ true → Small 2000000 z
unfolding power_in_range
power_small z e = within-small 1999999 z e

small_power : (z : ℤ) → Small 2000000 z → power_in_range z ≡ true
unfolding power_in_range
small_power z s = small-within 1999999 z s

pub bound-small : (z : ℤ) → bound_in_range z ≡ true → Small 10800000000 z
unfolding bound_in_range
bound-small z e = within-small 10799999999 z e

small-bound : (z : ℤ) → Small 10800000000 z → bound_in_range z ≡ true
unfolding bound_in_range
small-bound z s = small-within 10799999999 z s

units_small : (z : ℤ) → Small 2000000 z → Small 10800000000 (units_of z)
unfolding units_of
units_small z s = record { above = omega (arith, up-mul z 5400); below = omega (arith, down-mul z 5400) }

none-fits : power_in_range (pos 0) ≡ true
none-fits = small_power (pos 0) (record { above = omega (arith, up_pos 0); below = omega (arith, down_pos 0) })

-- ---- each setpoint of the past is in range

all_rest : (s : ℤ) (l : List ℤ) → all_in_range (s ∷ l) ≡ true → all_in_range l ≡ true
unfolding all_in_range
all_rest s l a = (both (power_in_range s) (all_in_range l) a).1

all-get : (l : List ℤ) (k : ℕ) (z : ℤ) → all_in_range l ≡ true → power_in_range z ≡ true → power_in_range (get_or l k z) ≡ true
unfolding all_in_range
all-get [] k z a p = p
all-get (s ∷ l) zero z a p = (both (power_in_range s) (all_in_range l) a).0
all-get (s ∷ l) (suc k) z a p = all-get l k z (all_rest s l a) p

all_first : (l : List ℤ) → all_in_range l ≡ true → power_in_range (first l) ≡ true
unfolding all_in_range first
all_first [] a = none-fits
all_first (s ∷ []) a = (both (power_in_range s) (all_in_range []) a).0
all_first (s ∷ (t ∷ l)) a = all_first (t ∷ l) (all_rest s (t ∷ l) a)

all_append : (l m : List ℤ) → all_in_range l ≡ true → all_in_range m ≡ true → all_in_range (l ++ m) ≡ true
unfolding all_in_range
all_append [] m a b = b
all_append (s ∷ l) m a b = let t = both (power_in_range s) (all_in_range l) a in rw (t.0, all_append l m t.1 b)

all-series : (h ss : List ℤ) → all_in_range h ≡ true → all_in_range ss ≡ true → all_in_range (series_after h ss) ≡ true
unfolding all_in_range series_after
all-series h [] a b = a
all-series h (s ∷ ss) a b = let t = both (power_in_range s) (all_in_range ss) b in all-series (s ∷ h) ss (rw (t.0, a)) t.1

all_back : (f : ℕ → ℤ) (n : ℕ) → ((k : ℕ) → power_in_range (f k) ≡ true) → all_in_range (back_to f n) ≡ true
unfolding all_in_range back_to
all_back f zero p = refl
all_back f (suc n) p = rw (p n, all_back f n p)

start_fits : (i : Interval) (start : Start) → AcceptableStart i start → all_in_range (carried_by start) ≡ true
unfolding all_in_range
start_fits i fresh a = refl
start_fits i (carried b) a = a.setpoints

past_fits : (i : Interval) (start : Start) (h : List ℤ) → AcceptableStart i start → all_in_range h ≡ true → (k : ℕ) → power_in_range (past_from start h k) ≡ true
unfolding past all_in_range
past_fits i start h a ps k =
    let all = all_append h (before start) ps (all-series [] (carried_by start) refl (start_fits i start a)) in
    all-get (h ++ before start) k (first (h ++ before start)) all (all_first (h ++ before start) all)

-- ---- so are the bounds

over-ind : (P : ℤ → Type 0) (side : Side) (f : ℕ → ℤ) → ((k : ℕ) → P (f k)) → (from n : ℕ) → P (over (farther_of side) f from n)
unfolding over
over-ind P side f p from zero = p from
over-ind P side f p from (suc n) =
    farther-ind P side (over (farther_of side) f from n) (f (from + suc n)) (over-ind P side f p from n) (p (from + suc n))

gradient-forward : (i : Interval) (lot : ℕ) (f : ℕ → ℤ) → down (gradient_of i lot f) ≡ 0
unfolding gradient_of
gradient-forward i lot f =
    let z : down (max_z (pos lot) (spread_of i f)) ≡ 0 = down-zero (max_z (pos lot) (spread_of i f)) (omega (arith, max-left (pos lot) (spread_of i f), up_pos lot, down_pos lot)) in
    down-mul (max_z (pos lot) (spread_of i f)) (20 * (windows_of i).seconds) ∙ rw (z, zero-mul)

-- the farther out of a small near bound and the held one, moved inward
oga-small : (n : ℕ) (near held g : ℤ) → down g ≡ 0 → Small n near → Small n held → Small n (max_z near (held -ℤ g))
oga-small n near held g z a b =
    record {
      above = max_ind (λ x. up x ≤ n) near (held -ℤ g) a.above (omega (arith, up-order (held -ℤ g) held (omega (arith, sub-lawℤ held g))));
      below = omega (arith, down-order near (max_z near (held -ℤ g)) (max-left near (held -ℤ g)));
    }

uga-small : (n : ℕ) (near held g : ℤ) → down g ≡ 0 → Small n near → Small n held → Small n (min_z near (held +ℤ g))
uga-small n near held g z a b =
    record {
      above = omega (arith, up-order (min_z near (held +ℤ g)) near (min-left near (held +ℤ g)));
      below = min_ind (λ x. down x ≤ n) near (held +ℤ g) a.below (omega (arith, down-order held (held +ℤ g) (omega (arith, add-law held g))));
    }

module _ (i : Interval) (lot : ℕ) (f : ℕ → ℤ) (fits : (k : ℕ) → power_in_range (f k) ≡ true) where
  near-small : (side : Side) (n : ℕ) → Small 10800000000 (units_of (over (farther_of side) f 0 n))
  near-small side n = units_small _ (over-ind (Small 2000000) side f (λ k. power_small (f k) (fits k)) 0 n)

  next_small : (side : Side) (held : ℤ) → Small 10800000000 held → Small 10800000000 (bound_of side i f held (gradient_of i lot f))
  next_small Upper held b = oga-small 10800000000 _ held (gradient_of i lot f) (gradient-forward i lot f) (near-small Upper ((windows_of i).near - 0)) b
  next_small Lower held b = uga-small 10800000000 _ held (gradient_of i lot f) (gradient-forward i lot f) (near-small Lower ((windows_of i).near - 0)) b

before_small : (i : Interval) (start : Start) → AcceptableStart i start → (side : Side) (s : ℤ) → power_in_range s ≡ true → Small 10800000000 (held_before side start s)
before_small i fresh a Upper s p = units_small s (power_small s p)
before_small i fresh a Lower s p = units_small s (power_small s p)
before_small i (carried b) a Upper s p = bound-small b.oga a.oga
before_small i (carried b) a Lower s p = bound-small b.uga a.uga

module _ (i : Interval) (lot : ℕ) (start : Start) (a : AcceptableStart i start) where
  none-small : (side : Side) → Small 10800000000 (held_of side i lot start [])
  unfolding oga_of uga_of
  none-small Upper = before_small i start a Upper (pos 0) none-fits
  none-small Lower = before_small i start a Lower (pos 0) none-fits

  held_small : (side : Side) (h : List ℤ) → all_in_range h ≡ true → Small 10800000000 (held_of side i lot start h)
  held_small side [] ps = none-small side
  held_small side (s ∷ []) ps =
      let p = all-get (s ∷ []) 0 (pos 0) ps none-fits in
      rw (held_first i lot side start s)
      (next_small i lot (past_from start (s ∷ [])) (past_fits i start (s ∷ []) a ps) side (held_before side start s) (before_small i start a side s p))
  held_small side (s ∷ (t ∷ h)) ps =
      rw (held-later i lot side start s t h)
      (next_small i lot (past_from start (s ∷ (t ∷ h))) (past_fits i start (s ∷ (t ∷ h)) a ps) side (held_of side i lot start (t ∷ h)) (held_small side (t ∷ h) (all_rest s (t ∷ h) ps)))

-- ---- the newest setpoint lies between them

newest-back : (f : ℕ → ℤ) (n : ℕ) → 0 < n → newest_of (back_to f n) ≡ f 0
unfolding back_to newest_of
newest-back f zero h = absurd (omega arith)
newest-back f (suc zero) h = refl
newest-back f (suc (suc n)) h = newest-back f (suc n) (omega arith)

newest-series : (h ss : List ℤ) → 0 < length ss → past (series_after h ss) 0 ≡ newest_of ss
unfolding series_after newest_of past
newest-series h [] l = absurd (omega arith)
newest-series h (s ∷ []) l = refl
newest-series h (s ∷ (t ∷ ss)) l = newest-series (s ∷ h) (t ∷ ss) (omega arith)

module _ (i : Interval) (lot : ℕ) where
  after-sample : (start : Start) (s : ℤ) (h : List ℤ) → within_of (uga_of i lot start (s ∷ h)) (units_of s) (oga_of i lot start (s ∷ h)) ≡ true
  unfolding within_of
  after-sample start s h =
      rw (true-le (uga_of i lot start (s ∷ h)) (units_of s) (uga_of-outside i lot start s h), true-le (units_of s) (oga_of i lot start (s ∷ h)) (oga_of-outside i lot start s h))

  newest-between : (start : Start) → AcceptableStart i start → (h : List ℤ) → Known start h
      → within_of (uga_of i lot start h) (units_of (past_from start h 0)) (oga_of i lot start h) ≡ true
  unfolding past series_after oga_of uga_of
  newest-between start a (s ∷ h) known = after-sample start s h
  newest-between fresh a [] known = absurd (omega arith)
  newest-between (carried b) a [] known = rw (newest-series [] b.setpoints (omega (arith, some_back i, a.number))) a.between

  -- A BLOCK THAT IS HANDED ON IS ACCEPTABLE
  pub block-accepted : (start : Start) (h : List ℤ) → AcceptableStart i start → all_in_range h ≡ true → Known start h → Acceptable i (block_of i lot start h)
  unfolding block_of
  block-accepted start h a ps known =
      record {
        number = back-length (past_from start h) (windows_of i).to;
        oga = small-bound (oga_of i lot start h) (held_small i lot start a Upper h ps);
        uga = small-bound (uga_of i lot start h) (held_small i lot start a Lower h ps);
        setpoints = all_back (past_from start h) (windows_of i).to (past_fits i start h a ps);
        between = rw (newest-back (past_from start h) (windows_of i).to (some_back i)) (newest-between start a h known);
      }
