-- The channel told backward is the one of Bounds.antt: its bounds after the setpoints up to sample t are oga(t) and uga(t).
-- Assumes nothing.
use Prim.Native.Nat.{ℕ, zero, suc, ◌+◌, ◌-◌, ◌<◌}
use mathlib.Core.Path.{◌≡◌, refl, sym, ap, fun_ext, ◌∙◌}
use mathlib.Core.List.{List, [], ◌∷◌, ◌++◌}
use native.Mathlib.Omega.{arith}
use native.Mathlib.Nat.{zero-add}
use lib.IntN.{ℤ, pos}
use lib.ListN.{length, take, get_or, length-append}
use lib.Seq.{take-suc, take_all}
use Rattle.arithmetic.specs.Power.{units_of}
use Rattle.bounds.specs.declared.side.Side.{Side}
use Rattle.bounds.specs.declared.side.Side.TheVariants.{Upper, Lower}
use Rattle.bounds.specs.Windows.{gradient_of, next_oga, next_uga}
use Rattle.channel.specs.Start.{fresh, carried_by}
use Rattle.channel.specs.Bounds.{Past, soll, oga_at, uga_at}
use Rattle.channel.specs.Block.{block_at, block_of}
use Rattle.channel.specs.Backward.{series_after, first, past, past_from, oga_of, uga_of}
use Rattle.bounds.specs.Side.{bound_of}
use Rattle.channel.proofs.Series.{series-append, series-on, series-end}
use Rattle.channel.proofs.Sides.{held_of, held_before, held_first, held-later}

-- ---- the setpoints up to sample t, told backward

unfoldable pub told : List ℤ → ℕ → List ℤ
told ss t = series_after [] (take (suc t) ss)

-- those up to the setpoint after some others
first-and-next : (a b : List ℤ) (s : ℤ) → take (suc (length a)) (a ++ (s ∷ b)) ≡ a ++ (s ∷ [])
first-and-next [] b s = refl
first-and-next (x ∷ a) b s = ap (λ (l : List ℤ). x ∷ l) (first-and-next a b s)

pub told-after : (a b : List ℤ) (s : ℤ) → told (a ++ (s ∷ b)) (length a) ≡ s ∷ series_after [] a
unfolding told
told-after a b s = ap (series_after []) (first-and-next a b s) ∙ series-end [] a s

-- all of them, from the last
pub told-all : (ss : List ℤ) → 0 < length ss → told ss (length ss - 1) ≡ series_after [] ss
unfolding told
told-all ss h = ap (series_after []) (take_all (suc (length ss - 1)) ss (omega arith))

module _ (ss : List ℤ) where
  told-first : 0 < length ss → told ss 0 ≡ get_or ss 0 (pos 0) ∷ []
  unfolding told series_after
  told-first h = ap (series_after []) (take-suc ss 0 (pos 0) h)

  told-next : (t : ℕ) → suc t < length ss → told ss (suc t) ≡ get_or ss (suc t) (pos 0) ∷ told ss t
  unfolding told
  told-next t h = ap (series_after []) (take-suc ss (suc t) (pos 0) h) ∙ series-end [] (take (suc t) ss) (get_or ss (suc t) (pos 0))

  -- it has a setpoint, and its newest is that of sample t
  told-some : (t : ℕ) → t < length ss → (h : List ℤ) × (told ss t ≡ get_or ss t (pos 0) ∷ h)
  told-some zero h = ([], told-first h)
  told-some (suc t) h = (told ss t, told-next t h)

-- ---- the setpoint k samples back

alone : (s : ℤ) (k : ℕ) → past (s ∷ []) k ≡ s
unfolding past first
alone s zero = refl
alone s (suc k) = refl

one-back : (s t : ℤ) (h : List ℤ) (k : ℕ) → past (s ∷ (t ∷ h)) (suc k) ≡ past (t ∷ h) k
unfolding past first
one-back s t h k = refl

module _ (ss : List ℤ) where
  newest : (t : ℕ) → t < length ss → past (told ss t) 0 ≡ get_or ss t (pos 0)
  unfolding past
  newest t h = rw (told-some ss t h).1

  back_one : (t k : ℕ) → suc t < length ss → past (told ss (suc t)) (suc k) ≡ past (told ss t) k
  back_one t k h =
      let s = told-some ss t (omega arith) in
      rw (told-next ss t h, s.1) (one-back (get_or ss (suc t) (pos 0)) (get_or ss t (pos 0)) s.0 k)

  none-back : (t : ℕ) → t - 0 ≡ t
  none-back t = omega arith

  stops : (k : ℕ) → 0 - suc k ≡ 0
  stops k = omega arith

  one_less : (t k : ℕ) → suc t - suc k ≡ t - k
  one_less t k = omega arith

  pub past-timed : (t k : ℕ) → t < length ss → past (told ss t) k ≡ get_or ss (t - k) (pos 0)
  past-timed t zero h = rw (none-back t) (newest t h)
  past-timed zero (suc k) h = rw (stops k, told-first ss h) (alone (get_or ss 0 (pos 0)) (suc k))
  past-timed (suc t) (suc k) h = rw (one_less t k) (back_one t k h ∙ past-timed t k (omega arith))

-- ---- behind the setpoints that were carried

pub take_behind : (c ss : List ℤ) (n : ℕ) → take (length c + n) (c ++ ss) ≡ c ++ take n ss
take_behind [] ss n = rw (zero-add n)
take_behind (x ∷ c) ss n =
    let e : length (x ∷ c) + n ≡ suc (length c + n) = omega arith in
    rw e (ap (λ (l : List ℤ). x ∷ l) (take_behind c ss n))

told-behind : (c ss : List ℤ) (t : ℕ) → told ss t ++ series_after [] c ≡ told (c ++ ss) (length c + t)
unfolding told
told-behind c ss t =
    let e : suc (length c + t) ≡ length c + suc t = omega arith in
    sym (series-append (series_after [] c) (take (suc t) ss)) ∙ sym (series-on [] c (take (suc t) ss)) ∙ ap (series_after []) (rw e (sym (take_behind c ss (suc t))))

-- ---- the bounds

-- OGA, or UGA, at sample t
abbrev pub timed_of : Side → Past → ℕ → ℤ
timed_of Upper = oga_at
timed_of Lower = uga_at

-- the next one, by the setpoints back from a sample and the one before it
abbrev next_of : Side → Past → (ℕ → ℤ) → ℤ → ℤ
next_of side p f held = bound_of side p.interval f held (gradient_of p.interval p.lot f)

timed-first : (side : Side) (p : Past) → timed_of side p 0 ≡ next_of side p (soll p 0) (held_before side p.start (soll p 0 0))
unfolding oga_at uga_at next_oga next_uga
timed-first Upper p = refl
timed-first Lower p = refl

timed-later : (side : Side) (p : Past) (t : ℕ) → timed_of side p (suc t) ≡ next_of side p (soll p (suc t)) (timed_of side p t)
unfolding oga_at uga_at next_oga next_uga
timed-later Upper p t = refl
timed-later Lower p t = refl

module _ (p : Past) where
  -- all setpoints back from sample t
  pub all_back : (t : ℕ) → t < length p.setpoints → past_from p.start (told p.setpoints t) ≡ soll p t
  unfolding soll
  all_back t h =
      let c = carried_by p.start in
      fun_ext (λ k. ap (λ (l : List ℤ). past l k) (told-behind c p.setpoints t) ∙ past-timed (c ++ p.setpoints) (length c + t) k (omega (arith, length-append c p.setpoints)))

  first-sample : (l : 0 < length p.setpoints) → soll p 0 0 ≡ get_or p.setpoints 0 (pos 0)
  unfolding past
  first-sample l = sym (ap (λ (f : ℕ → ℤ). f 0) (all_back 0 l)) ∙ rw (told-first p.setpoints l)

module _ (side : Side) (p : Past) where
  -- THE BOUNDS after the setpoints up to sample t are those at sample t
  pub held-timed : (t : ℕ) → t < length p.setpoints → held_of side p.interval p.lot p.start (told p.setpoints t) ≡ timed_of side p t
  held-timed zero h =
      let e = told-first p.setpoints h in
      let s = get_or p.setpoints 0 (pos 0) in
      ap (held_of side p.interval p.lot p.start) e
      ∙ held_first p.interval p.lot side p.start s
      ∙ ap (λ (f : ℕ → ℤ). next_of side p f (held_before side p.start s)) (ap (past_from p.start) (sym e) ∙ all_back p 0 h)
      ∙ ap (λ (z : ℤ). next_of side p (soll p 0) (held_before side p.start z)) (sym (first-sample p h))
      ∙ sym (timed-first side p)
  held-timed (suc t) h =
      let s = get_or p.setpoints (suc t) (pos 0) in
      let e = told-next p.setpoints t h in
      let m = told-some p.setpoints t (omega arith) in
      ap (held_of side p.interval p.lot p.start) (e ∙ ap (λ (h : List ℤ). s ∷ h) m.1)
      ∙ held-later p.interval p.lot side p.start s (get_or p.setpoints t (pos 0)) m.0
      ∙ ap (λ (h : List ℤ). next_of side p (past_from p.start (s ∷ h)) (held_of side p.interval p.lot p.start h)) (sym m.1)
      ∙ ap (λ (f : ℕ → ℤ). next_of side p f (held_of side p.interval p.lot p.start (told p.setpoints t))) (ap (past_from p.start) (sym e) ∙ all_back p (suc t) h)
      ∙ ap (next_of side p (soll p (suc t))) (held-timed t (omega arith))
      ∙ sym (timed-later side p t)

-- in the words of Bounds.antt
pub oga-timed : (p : Past) (t : ℕ) → t < length p.setpoints → oga_of p.interval p.lot p.start (told p.setpoints t) ≡ oga_at p t
oga-timed = held-timed Upper

pub uga-timed : (p : Past) (t : ℕ) → t < length p.setpoints → uga_of p.interval p.lot p.start (told p.setpoints t) ≡ uga_at p t
uga-timed = held-timed Lower

-- the block, too
pub block-timed : (p : Past) (t : ℕ) → t < length p.setpoints → block_of p.interval p.lot p.start (told p.setpoints t) ≡ block_at p t
unfolding block_of block_at
block-timed p t h = rw (oga-timed p t h, uga-timed p t h, all_back p t h)

-- ---- without a block, soll, oga and uga are what they were before there were blocks

module _ (p : Past) (none : p.start ≡ fresh) where
  pub soll-fresh : (t k : ℕ) → soll p t k ≡ get_or p.setpoints (t - k) (pos 0)
  unfolding soll
  soll-fresh t k = rw (none, zero-add t)

  pub fresh-first : (side : Side) → timed_of side p 0 ≡ next_of side p (soll p 0) (units_of (soll p 0 0))
  fresh-first Upper = timed-first Upper p ∙ rw none
  fresh-first Lower = timed-first Lower p ∙ rw none
