-- The windows at each setpoint of a line, and where the loop that leads the bounds along it stands.
-- Assumes nothing.
use mathlib.Core.Path.{◌≡◌, refl, sym, ap, ◌∙◌}
use mathlib.Core.List.{List}
use mathlib.Core.Logic.{⊎_elim}
use Prim.Native.Nat.{ℕ, zero, suc, ◌+◌, ◌-◌, ◌≤◌, ◌<◌}
use native.Mathlib.Omega.{arith}
use native.Mathlib.Nat.{add-zero, eq-or-lt_of_le}
use native.Mathlib.Numerals.{add-one}
use lib.IntN.{ℤ, pos}
use lib.ListN.{length, get_or, set}
use mir.Syntax.{w32}
use mir.Val.{SFits}
use Rattle.series.proofs.Filling.{Tabled, tabled-none, tabled-more, tabled-all}
use Rattle.vocabulary.specs.declared.interval.Interval.{Interval}
use Rattle.vocabulary.specs.Interval.{windows_of}
use Rattle.bounds.specs.declared.side.Side.{Side}
use Rattle.bounds.specs.declared.side.Side.TheVariants.{Upper, Lower}
use Rattle.bounds.specs.declared.bound.Seen.{Seen}
use Rattle.vocabulary.specs.declared.acceptance.Bounds.{Bounds}
use Rattle.bounds.specs.Windows.{over}
use Rattle.bounds.specs.Side.{farther_of, seen_by, next_of}
use Rattle.bounds.specs.Movable.{movable_of}
use Rattle.bounds.specs.Widening.{back_at, ending_at, Reaching}
use Rattle.bounds.specs.Line.{held_after, held_at, bounds_after, Leads, Windowed, Flat, NearWindows, SpreadWindows, Shown}
use Rattle.bounds.proofs.Scan.{within}
use Rattle.bounds.proofs.Sides.{farther-ind, next-seen}
use Rattle.bounds.proofs.Moving.{brought-out-next}
use Rattle.bounds.proofs.WindowLaws.{earlier}

-- ---- the windows: those of to - from + 1 setpoints that end `from` places before a setpoint

module _ (side : Side) (line : List ℤ) (n : ℕ) (xs : List ℤ) where
  windowed : (from to : ℕ) → from ≤ to → to < 302 → Reaching side line (to - from + 1) (302 + n) xs → Windowed side line n from to xs
  unfolding ending_at
  windowed from to order far r =
      record {
        found = λ k h.
            let e : to - from + 1 - 1 ≡ to - from = omega arith in
            rw e at (r.at (302 + k - from) (omega arith) (omega arith)) ∙ earlier (farther_of side) line (302 + k) from (to - from);
      }

  pub near-windows : (i : Interval) → Reaching side line ((windows_of i).near + 1) (302 + n) xs → NearWindows side i line n xs
  near-windows i r =
      let w = within i in
      let e : (windows_of i).near + 1 ≡ (windows_of i).near - 0 + 1 = omega arith in
      windowed 0 (windows_of i).near (omega arith) w.near (rw e at r)

  pub spread-windows : (i : Interval) → Reaching side line ((windows_of i).to - (windows_of i).from + 1) (302 + n) xs → SpreadWindows side i line n xs
  spread-windows i r = let w = within i in windowed (windows_of i).from (windows_of i).to w.order w.far r

-- ---- a line of one and the same setpoint: each window over it shows that one

pub flat-one : (line : List ℤ) → Flat line 1
flat-one line k h = let e : k ≡ 0 = omega arith in rw e

pub flat-more : (line : List ℤ) (n : ℕ) → Flat line n → get_or line n (pos 0) ≡ get_or line 0 (pos 0) → Flat line (n + 1)
flat-more line n f e k h =
    ⊎_elim (λ (q : k ≡ n). rw q e) (λ (l : k < n). f k l) (eq-or-lt_of_le (let l : k ≤ n = omega arith in l))

over-same : (side : Side) (f : ℕ → ℤ) (v : ℤ) (from n : ℕ) → ((k : ℕ) → f (from + k) ≡ v) → over (farther_of side) f from n ≡ v
unfolding over
over-same side f v from zero h = rw (add-zero from) at (h 0)
over-same side f v from (suc n) h = rw (over-same side f v from n h, h (suc n)) (farther-ind (λ (z : ℤ). z ≡ v) side v v refl refl)

module _ (line : List ℤ) (n : ℕ) (flat : Flat line (302 + n)) where
  flat-windows : (side : Side) (from to : ℕ) → from ≤ to → to < 302 → Windowed side line n from to line
  unfolding back_at
  flat-windows side from to order far =
      record {
        found = λ k h.
            flat (302 + k - from) (omega arith)
            ∙ sym (over-same side (back_at line (302 + k)) (get_or line 0 (pos 0)) from (to - from) (λ j. flat (302 + k - (from + j)) (omega arith)));
      }

  pub flat-shown : (i : Interval) → Shown i line n line line line line
  flat-shown i =
      let w = within i in
      record {
        near_upper = flat-windows Upper 0 (windows_of i).near (omega arith) w.near;
        near_lower = flat-windows Lower 0 (windows_of i).near (omega arith) w.near;
        spread_upper = flat-windows Upper (windows_of i).from (windows_of i).to w.order w.far;
        spread_lower = flat-windows Lower (windows_of i).from (windows_of i).to w.order w.far;
      }

-- ---- one setpoint more

module _ (i : Interval) (lot : ℕ) (line : List ℤ) (n : ℕ) (highest lowest most least : List ℤ) where
  -- what the windows show at setpoint k
  abbrev pub seen_at : ℕ → Seen
  seen_at k =
      record {
        highest = get_or highest (302 + k) (pos 0);
        lowest = get_or lowest (302 + k) (pos 0);
        most = get_or most (302 + k - (windows_of i).from) (pos 0);
        least = get_or least (302 + k - (windows_of i).from) (pos 0);
      }

  pub seen-at : Shown i line n highest lowest most least → (k : ℕ) → k < n → seen_at k ≡ seen_by i (back_at line (302 + k))
  unfolding seen_by
  seen-at s k h =
      let e : 302 + k ≡ 302 + k - 0 = omega arith in
      let high = rw (← e) at (s.near_upper.found k h) in
      let low = rw (← e) at (s.near_lower.found k h) in
      rw (high, low, s.spread_upper.found k h, s.spread_lower.found k h)

-- ---- the loop over the setpoints

module _ (i : Interval) (lot : ℕ) (line : List ℤ) (start : Bounds) (ogas₀ ugas₀ : List ℤ) where
  -- the bounds that it holds after k setpoints: before the first of them those that can be moved
  abbrev pub standing : ℕ → Bounds
  standing zero = movable_of start
  standing (suc k) = bounds_after i lot line start (suc k)

  -- they go on as those do that are held
  standing_on : (k : ℕ) (seen : Seen) → SFits w32 seen.highest → SFits w32 seen.lowest
      → next_of i lot seen (standing k) ≡ next_of i lot seen (bounds_after i lot line start k)
  unfolding held_after
  standing_on zero seen high low = brought-out-next i lot seen start high low
  standing_on (suc k) seen high low = refl

  standing-last : (k : ℕ) → 0 < k → standing k ≡ bounds_after i lot line start k
  standing-last zero h = absurd (omega arith)
  standing-last (suc k) h = refl

  -- where it stands after k setpoints
  pub record Midway (last : Bounds) (ogas ugas : List ℤ) (k : ℕ) : Type 0 where
    pub now : last ≡ standing k
    pub over : Tabled (held_at Upper i lot line start.oga.0) ogas₀ ogas k
    pub under : Tabled (held_at Lower i lot line start.uga.0) ugas₀ ugas k

  pub midway-none : Midway (movable_of start) ogas₀ ugas₀ 0
  midway-none = record { now = refl; over = tabled-none _ ogas₀; under = tabled-none _ ugas₀ }

  module _ (n : ℕ) (highest lowest most least : List ℤ) (s : Shown i line n highest lowest most least) (above : n ≤ length ogas₀) (below : n ≤ length ugas₀) where
    abbrev pub seen_here : ℕ → Seen
    seen_here = seen_at i lot line n highest lowest most least

    pub midway-more : (last next : Bounds) (ogas ugas : List ℤ) (k : ℕ) → k < n → SFits w32 (seen_here k).highest → SFits w32 (seen_here k).lowest
        → next ≡ next_of i lot (seen_here k) last → Midway last ogas ugas k → Midway next (set ogas k next.oga.0) (set ugas k next.uga.0) (k + 1)
    unfolding held_after
    midway-more last next ogas ugas k h high low e m =
        let before = bounds_after i lot line start k in
        let shown = seen-at i lot line n highest lowest most least s k h in
        let from-before : next ≡ next_of i lot (seen_here k) before = e ∙ ap (next_of i lot (seen_here k)) m.now ∙ standing_on k (seen_here k) high low in
        let v : next ≡ bounds_after i lot line start (suc k) = rw shown at from-before ∙ next-seen i lot (back_at line (302 + k)) before in
        record {
          now = rw (add-one) v;
          over = tabled-more _ ogas₀ ogas k next.oga.0 (omega arith) (ap (λ (b : Bounds). b.oga.0) v) m.over;
          under = tabled-more _ ugas₀ ugas k next.uga.0 (omega arith) (ap (λ (b : Bounds). b.uga.0) v) m.under;
        }

  -- none at all: what is held stays
  pub leads-none : Leads i lot start line 0 ogas₀ ugas₀ ogas₀ ugas₀ start
  unfolding held_after
  leads-none =
      record { last = refl; above = tabled-all _ ogas₀ ogas₀ 0 (tabled-none _ ogas₀); below = tabled-all _ ugas₀ ugas₀ 0 (tabled-none _ ugas₀) }

  pub midway-all : (last : Bounds) (ogas ugas : List ℤ) (k : ℕ) → 0 < k → Midway last ogas ugas k → Leads i lot start line k ogas₀ ugas₀ ogas ugas last
  midway-all last ogas ugas k some m =
      record { last = m.now ∙ standing-last k some; above = tabled-all _ ogas₀ ogas k m.over; below = tabled-all _ ugas₀ ugas k m.under }
