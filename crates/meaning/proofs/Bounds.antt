-- The bounds at the samples of a quarter hour: told forward as in Given.antt, and backward as the channel's state follows them.
-- Assumes nothing.
use Prim.Native.Nat.{ℕ, ◌+◌, ◌*◌, ◌≤◌, ◌<◌}
use mathlib.Core.Path.{◌≡◌, refl, sym, ap, ◌∙◌}
use mathlib.Core.List.{List, [], ◌∷◌, ◌++◌, append_assoc}
use native.Mathlib.Omega.{arith}
use native.Mathlib.Decide.{dec_le}
use lib.IntN.{ℤ}
use lib.ListN.{length, take, drop, length-append, take-append-drop, drop_of_length-le}
use lib.Seq.{length-take-le, take-nil}
use Rattle.vocabulary.specs.declared.interval.Interval.{Interval}
use Rattle.channel.specs.Start.{Start}
use Rattle.channel.specs.Bounds.{Past, oga_at, uga_at}
use Rattle.channel.specs.Backward.{series_after, oga_of, uga_of}
use Rattle.channel.proofs.Series.{series-end}
use Rattle.channel.proofs.Timed.{told, told-after, oga-timed, uga-timed}
use Rattle.series.specs.Scan.{each}
use Rattle.series.proofs.Scanned.{each-length}
use Rattle.series.proofs.Each.{each-join}
use Rattle.claims.specs.Powers.{Samples, samples, ogas_over, ugas_over, samples_over}
use Rattle.meaning.specs.Given.{Given, interval_in, lot_in, per_quarter, setpoint_in, actual_in, quarter_samples, samples_before, past_in, bounds_from, setpoints_in, samples_in}

-- ---- one bound along some setpoints: `over` goes by the series so far, `of` and `at` are the bound, told backward and forward

module _ (i : Interval) (lot : ℕ) (start : Start) where
  abbrev past_by : List ℤ → Past
  past_by ss = record { start = start; interval = i; lot = lot; setpoints = ss }

  module _ (of : List ℤ → ℤ) (over : List ℤ → List ℤ → List ℤ) (at : Past → ℕ → ℤ)
      (none : (h : List ℤ) → over h [] ≡ [])
      (more : (h : List ℤ) (s : ℤ) (ss : List ℤ) → over h (s ∷ ss) ≡ of (s ∷ h) ∷ over (s ∷ h) ss)
      (timed : (ss : List ℤ) (t : ℕ) → t < length ss → of (told ss t) ≡ at (past_by ss) t) where
    bound-after : (a b : List ℤ) (s : ℤ) → of (s ∷ series_after [] a) ≡ at (past_by (a ++ (s ∷ b))) (length a)
    bound-after a b s = ap of (sym (told-after a b s)) ∙ timed (a ++ (s ∷ b)) (length a) (omega (arith, length-append a (s ∷ b)))

    forward : (a ss b : List ℤ) → over (series_after [] a) ss ≡ bounds_from (at (past_by (a ++ (ss ++ b)))) (length a) ss
    unfolding bounds_from
    forward a [] b = none (series_after [] a)
    forward a (s ∷ ss) b =
        let longer : (a ++ (s ∷ [])) ++ (ss ++ b) ≡ a ++ (s ∷ (ss ++ b)) = append_assoc a (s ∷ []) (ss ++ b) in
        let rest : over (s ∷ series_after [] a) ss ≡ bounds_from (at (past_by (a ++ (s ∷ (ss ++ b))))) (length a + 1) ss =
        ap (λ (h : List ℤ). over h ss) (sym (series-end [] a s))
        ∙ forward (a ++ (s ∷ [])) ss b
        ∙ rw (longer, length-append a (s ∷ [])) in
        more (series_after [] a) s ss
        ∙ ap (λ (z : ℤ). z ∷ over (s ∷ series_after [] a) ss) (bound-after a (ss ++ b) s)
        ∙ ap (λ (l : List ℤ). at (past_by (a ++ (s ∷ (ss ++ b)))) (length a) ∷ l) rest

-- ---- a quarter hour, told backward

abbrev pub told_samples : Given → ℕ → Samples
told_samples g q =
    samples_over (interval_in g) (lot_in g) g.start (series_after [] (each setpoint_in (samples_before g q))) (setpoints_in g q) (each actual_in (quarter_samples g q))

module _ (i : Interval) (lot : ℕ) (start : Start) where
  ogas-none : (h : List ℤ) → ogas_over i lot start h [] ≡ []
  unfolding ogas_over
  ogas-none h = refl

  ogas-more : (h : List ℤ) (s : ℤ) (ss : List ℤ) → ogas_over i lot start h (s ∷ ss) ≡ oga_of i lot start (s ∷ h) ∷ ogas_over i lot start (s ∷ h) ss
  unfolding ogas_over
  ogas-more h s ss = refl

  ugas-none : (h : List ℤ) → ugas_over i lot start h [] ≡ []
  unfolding ugas_over
  ugas-none h = refl

  ugas-more : (h : List ℤ) (s : ℤ) (ss : List ℤ) → ugas_over i lot start h (s ∷ ss) ≡ uga_of i lot start (s ∷ h) ∷ ugas_over i lot start (s ∷ h) ss
  unfolding ugas_over
  ugas-more h s ss = refl

  ogas-forward : (a ss b : List ℤ) → ogas_over i lot start (series_after [] a) ss ≡ bounds_from (oga_at (past_by i lot start (a ++ (ss ++ b)))) (length a) ss
  ogas-forward = forward i lot start (oga_of i lot start) (ogas_over i lot start) oga_at ogas-none ogas-more (λ ss. oga-timed (past_by i lot start ss))

  ugas-forward : (a ss b : List ℤ) → ugas_over i lot start (series_after [] a) ss ≡ bounds_from (uga_at (past_by i lot start (a ++ (ss ++ b)))) (length a) ss
  ugas-forward = forward i lot start (uga_of i lot start) (ugas_over i lot start) uga_at ugas-none ugas-more (λ ss. uga-timed (past_by i lot start ss))

module _ (g : Given) (q : ℕ) where
  abbrev earlier : List ℤ
  earlier = each setpoint_in (samples_before g q)

  abbrev after : List ℤ
  after = each setpoint_in (drop (per_quarter g) (drop (q * per_quarter g) g.samples))

  -- the setpoints before it, its own, and those after it
  parted : each setpoint_in g.samples ≡ earlier ++ (setpoints_in g q ++ after)
  unfolding samples_before quarter_samples
  parted =
      ap (each setpoint_in) (sym (take-append-drop (q * per_quarter g) g.samples))
      ∙ each-join setpoint_in (take (q * per_quarter g) g.samples) (drop (q * per_quarter g) g.samples)
      ∙ ap (λ (l : List ℤ). each setpoint_in (take (q * per_quarter g) g.samples) ++ l)
      (ap (each setpoint_in) (sym (take-append-drop (per_quarter g) (drop (q * per_quarter g) g.samples)))
      ∙ each-join setpoint_in (take (per_quarter g) (drop (q * per_quarter g) g.samples)) (drop (per_quarter g) (drop (q * per_quarter g) g.samples)))

  abbrev here : Past → ℕ → Samples
  here p t = samples (setpoints_in g q) (each actual_in (quarter_samples g q)) (bounds_from (oga_at p) t (setpoints_in g q)) (bounds_from (uga_at p) t (setpoints_in g q))

  -- where it begins: after as many samples as came before, or where there are none any more
  begins : here (past_in g) (q * per_quarter g) ≡ here (past_in g) (length earlier)
  unfolding samples_before quarter_samples each bounds_from
  begins =
      elim (dec_le (q * per_quarter g) (length g.samples)) [
        | yes h ↦
            let e : length earlier ≡ q * per_quarter g = each-length setpoint_in (take (q * per_quarter g) g.samples) ∙ length-take-le (q * per_quarter g) g.samples h in
            rw e
        | no h ↦
            let l : length g.samples ≤ q * per_quarter g = omega arith in
            let n : take (per_quarter g) (drop (q * per_quarter g) g.samples) ≡ [] = ap (take (per_quarter g)) (drop_of_length-le g.samples l) ∙ take-nil (per_quarter g) in
            rw n
      ]

  pub samples-told : samples_in g q ≡ told_samples g q
  samples-told =
      begins
      ∙ ap (λ (ss : List ℤ). here (past_by (interval_in g) (lot_in g) g.start ss) (length earlier)) parted
      ∙ rw (ogas-forward (interval_in g) (lot_in g) g.start earlier (setpoints_in g q) after, ugas-forward (interval_in g) (lot_in g) g.start earlier (setpoints_in g q) after)
