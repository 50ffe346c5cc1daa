-- Where every actual of a quarter hour is its setpoint, all of it is accepted, since OGA is never below the setpoint (N: UGA never above it): SO, IS and AK are one column.
-- Assumes nothing.
use Prim.Native.Nat.{ℕ, zero, suc, ◌*◌, ◌≤◌, ◌<◌}
use mathlib.Core.Path.{◌≡◌, refl, sym, ap, ◌∙◌}
use mathlib.Core.List.{List, [], ◌∷◌}
use native.Mathlib.Omega.{arith}
use native.Mathlib.Nat.{zero-add}
use lib.IntN.{ℤ, pos}
use lib.ListN.{length, get_or}
use lib.Seq.{ext_get_or}
use Rattle.arithmetic.specs.Whole.{up, down, least_of}
use Rattle.arithmetic.specs.Power.{units_of}
use Rattle.arithmetic.specs.Energy.{kwh_of}
use Rattle.arithmetic.proofs.Signed.{up-mul, down-mul}
use Rattle.arithmetic.proofs.Parts.{up-order, down-order}
use Rattle.series.specs.Scan.{each}
use Rattle.series.specs.Sums.{sum_of}
use Rattle.series.specs.Cuts.{cuts_of, sliced_in, above_of}
use Rattle.series.proofs.Scanned.{outputs-length}
use Rattle.vocabulary.specs.declared.interval.Interval.{Interval}
use Rattle.vocabulary.specs.declared.direction.Direction.{Direction}
use Rattle.vocabulary.specs.declared.direction.Direction.TheVariants.{Positive, Negative}
use Rattle.bounds.specs.declared.side.Side.TheVariants.{Upper, Lower}
use Rattle.bounds.proofs.Outside.{Outside}
use Rattle.channel.specs.Start.{Start}
use Rattle.channel.specs.Backward.{series_after}
use Rattle.channel.proofs.Enclosed.{oga_of-outside, uga_of-outside}
use Rattle.values.specs.declared.value.Quantity.{Quantity}
use Rattle.values.specs.declared.value.Quantity.TheVariants.{Setpoint}
use Rattle.values.specs.Part.{part_of, amount_of, acceptance_of}
use Rattle.contracts.specs.Terms.{limits_of}
use Rattle.claims.specs.Powers.{Samples, next, power_at, powers_of, ogas_over, ugas_over, samples_over}
use Rattle.claims.proofs.PowerLaws.{power-is}
use Rattle.claims.proofs.Joining.{along}
use Rattle.claims.proofs.Rests.{awarded}
use Rattle.meaning.specs.Given.{Given, interval_in, lot_in, seconds_in, setpoint_in, actual_in, quarter_samples, samples_before, setpoints_in, terms_in, powers_in, lines_in, pool_in}
use Rattle.meaning.proofs.Bounds.{samples-told}
use Rattle.explain.specs.Explained.{Column, SO, IS, AK, on_line, on_pool, rest_on}
use Rattle.explain.proofs.Added.{quantity_of, lines-exact, pool-exact, rest-exact}

-- ---- a sample

-- bounds that lie outside the setpoint leave all of it
up-reached : (s oga : ℤ) → Outside Upper oga (units_of s) → up s * 5400 ≤ up oga
unfolding units_of
up-reached s oga o = rw (up-mul s 5400) at (up-order (units_of s) oga o)

down-reached : (s uga : ℤ) → Outside Lower uga (units_of s) → down s * 5400 ≤ down uga
unfolding units_of
down-reached s uga o = rw (down-mul s 5400) at (down-order uga (units_of s) o)

all-accepted : (c : Column) (d : Direction) (s oga uga : ℤ) → Outside Upper oga (units_of s) → Outside Lower uga (units_of s)
    → amount_of (quantity_of c) (part_of d s s oga uga) ≡ amount_of Setpoint (part_of d s s oga uga)
unfolding acceptance_of least_of
all-accepted SO d s oga uga o u = refl
all-accepted IS Positive s oga uga o u = refl
all-accepted IS Negative s oga uga o u = refl
all-accepted AK Positive s oga uga o u = omega (arith, up-reached s oga o)
all-accepted AK Negative s oga uga o u = omega (arith, down-reached s uga u)

-- ---- a quarter hour

module _ (i : Interval) (lot : ℕ) (start : Start) where
  oga-outside-at : (h ss : List ℤ) (k : ℕ) → k < length ss → Outside Upper (get_or (ogas_over i lot start h ss) k (pos 0)) (units_of (get_or ss k (pos 0)))
  unfolding ogas_over
  oga-outside-at h [] k l = absurd (omega arith)
  oga-outside-at h (s ∷ ss) zero l = oga_of-outside i lot start s h
  oga-outside-at h (s ∷ ss) (suc k) l = oga-outside-at (s ∷ h) ss k (omega arith)

  uga-outside-at : (h ss : List ℤ) (k : ℕ) → k < length ss → Outside Lower (get_or (ugas_over i lot start h ss) k (pos 0)) (units_of (get_or ss k (pos 0)))
  unfolding ugas_over
  uga-outside-at h [] k l = absurd (omega arith)
  uga-outside-at h (s ∷ ss) zero l = uga_of-outside i lot start s h
  uga-outside-at h (s ∷ ss) (suc k) l = uga-outside-at (s ∷ h) ss k (omega arith)

module _ (c : Column) (d : Direction) (i : Interval) (lot : ℕ) (start : Start) (h ss : List ℤ) where
  abbrev x : Samples
  x = samples_over i lot start h ss ss

  power_at_lem : (v : Quantity) (k : ℕ) → k < length ss
      → get_or (powers_of d x v) k 0 ≡ amount_of v (part_of d (get_or ss k (pos 0)) (get_or ss k (pos 0)) (get_or x.ogas k (pos 0)) (get_or x.ugas k (pos 0)))
  power_at_lem v k l = along (power_at d x v) 0 ss k (pos 0) 0 l ∙ rw (zero-add k) (power-is d x v k (get_or ss k (pos 0)))

  same_at : (k : ℕ) → k < length ss → get_or (powers_of d x (quantity_of c)) k 0 ≡ get_or (powers_of d x Setpoint) k 0
  same_at k l =
      power_at_lem (quantity_of c) k l
      ∙ all-accepted c d (get_or ss k (pos 0)) (get_or x.ogas k (pos 0)) (get_or x.ugas k (pos 0)) (oga-outside-at i lot start h ss k l) (uga-outside-at i lot start h ss k l)
      ∙ sym (power_at_lem Setpoint k l)

  same-powers : powers_of d x (quantity_of c) ≡ powers_of d x Setpoint
  same-powers =
      ext_get_or 0 (powers_of d x (quantity_of c)) (powers_of d x Setpoint)
      (outputs-length next (power_at d x (quantity_of c)) 0 ss ∙ sym (outputs-length next (power_at d x Setpoint) 0 ss))
      (λ k l. same_at k (omega (arith, outputs-length next (power_at d x (quantity_of c)) 0 ss)))

module _ (c : Column) (d : Direction) (g : Given) (q : ℕ) (e : each actual_in (quarter_samples g q) ≡ setpoints_in g q) where
  steady-powers : powers_in d g q (quantity_of c) ≡ powers_in d g q Setpoint
  steady-powers =
      rw (samples-told g q, e) (same-powers c d (interval_in g) (lot_in g) g.start (series_after [] (each setpoint_in (samples_before g q))) (setpoints_in g q))

  pub steady-pool : on_pool c (pool_in d g q) ≡ on_pool SO (pool_in d g q)
  unfolding pool_in
  steady-pool =
      pool-exact (seconds_in g) (powers_in d g q) c (terms_in d g)
      ∙ ap (λ (l : List ℕ). kwh_of (seconds_in g * sum_of l)) steady-powers
      ∙ sym (pool-exact (seconds_in g) (powers_in d g q) SO (terms_in d g))

  pub steady-rest : rest_on c (pool_in d g q) ≡ rest_on SO (pool_in d g q)
  unfolding pool_in
  steady-rest =
      rest-exact (seconds_in g) (powers_in d g q) c (terms_in d g)
      ∙ ap (λ (l : List ℕ). kwh_of (seconds_in g * above_of (awarded (terms_in d g)) l)) steady-powers
      ∙ sym (rest-exact (seconds_in g) (powers_in d g q) SO (terms_in d g))

  pub steady-lines : each (on_line c) (lines_in d g q) ≡ each (on_line SO) (lines_in d g q)
  unfolding lines_in
  steady-lines =
      lines-exact (seconds_in g) (powers_in d g q) c (terms_in d g)
      ∙ ap (λ (l : List ℕ). each kwh_of (each (λ x. seconds_in g * sliced_in l x) (cuts_of (limits_of (terms_in d g))))) steady-powers
      ∙ sym (lines-exact (seconds_in g) (powers_in d g q) SO (terms_in d g))
