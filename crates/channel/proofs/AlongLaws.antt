-- The channel along setpoints: what it keeps, its past as a line, its bounds as the line has them, and its ring.
-- Assumes nothing.
use mathlib.Core.Path.{◌≡◌, refl, sym, ap, ◌∙◌}
use mathlib.Core.Bool.{Bool, true, false, cond}
use mathlib.Core.List.{List, [], ◌∷◌, ◌++◌}
use Prim.Native.Nat.{ℕ, zero, suc, ◌+◌, ◌-◌, ◌%◌, ◌≤◌, ◌<◌}
use native.Mathlib.Omega.{arith}
use native.Mathlib.Numerals.{add-one}
use lib.IntN.{ℤ, pos}
use lib.ListN.{length, take, drop, get_or, length-set}
use lib.Seq.{get_or-take, length-take-le, take-length, ext_get_or}
use Rattle.arithmetic.specs.Whole.{least_of}
use Rattle.series.specs.Scan.{ran, outputs}
use Rattle.series.specs.Places.{Fills, table}
use Rattle.series.proofs.Scanned.{ran-more, outputs-length, outputs-at}
use Rattle.series.proofs.Filling.{table-length, table_at}
use Rattle.vocabulary.specs.declared.interval.Interval.{Interval}
use Rattle.bounds.specs.declared.side.Side.{Side}
use Rattle.bounds.specs.declared.side.Side.TheVariants.{Upper, Lower}
use Rattle.vocabulary.specs.declared.acceptance.Bounds.{Bounds}
use Rattle.bounds.specs.Side.{next_by}
use Rattle.bounds.specs.Widening.{back_at}
use Rattle.bounds.specs.Line.{held_after, held_at, led_count, Leads}
use Rattle.bounds.proofs.Agreeing.{next-cong}
use Rattle.channel.specs.declared.Channel.{Channel}
use Rattle.channel.specs.Start.{Start}
use Rattle.channel.specs.Backward.{series_after}
use Rattle.channel.specs.State.{back_in, past_of, after, primed_of, filled_of, stored_of, advanced_of, followed, StandsFor}
use Rattle.channel.specs.Along.{oga_after, uga_after, channel_after, ogas_along, ugas_along, track_of, Follows, past_at, aged_at, fresh_at, Lined, ring_at}
use Rattle.channel.proofs.Ring.{stored-newest, stored-older, primed-later, follows}

-- OGA, or UGA, of a channel, and after one more setpoint
abbrev pub bound_in : Side → Channel → ℤ
bound_in Upper ch = ch.oga.0
bound_in Lower ch = ch.uga.0

abbrev pub bound_after : Side → Channel → ℤ → ℤ
bound_after Upper = oga_after
bound_after Lower = uga_after

-- ---- one setpoint more, of a channel that has begun

module _ (ch : Channel) (s : ℤ) (begun : ch.begun ≡ true) where
  followed-begun : followed ch s ≡ advanced_of (stored_of ch s)
  unfolding followed
  followed-begun = rw (primed-later ch s begun)

  followed-past : (k : ℕ) → past_of (followed ch s) k ≡ past_of (stored_of ch s) k
  unfolding past_of advanced_of
  followed-past k = rw followed-begun

  followed-newest : (followed ch s).newest ≡ after ch.newest
  unfolding stored_of advanced_of
  followed-newest = rw followed-begun

  followed-bound : (side : Side) → bound_in side (followed ch s) ≡ next_by side ch.interval ch.lot (past_of (followed ch s)) (bound_in side ch)
  unfolding past_of stored_of advanced_of
  followed-bound Upper = rw followed-begun
  followed-bound Lower = rw followed-begun

-- ---- what stays

pub record Kept (ch p : Channel) : Type 0 where
  pub begun : p.begun ≡ true
  pub sized : length p.ring ≡ 302
  pub interval : p.interval ≡ ch.interval
  pub lot : p.lot ≡ ch.lot

kept-followed : (ch p : Channel) (s : ℤ) → Kept ch p → Kept ch (followed p s)
unfolding stored_of advanced_of
kept-followed ch p s k =
    rw (followed-begun p s k.begun)
    (record { begun = k.begun; sized = length-set p.ring (after p.newest) s ∙ k.sized; interval = k.interval; lot = k.lot })

kept-all : (ch p : Channel) (ss : List ℤ) → Kept ch p → Kept ch (channel_after p ss)
unfolding ran
kept-all ch p [] k = k
kept-all ch p (s ∷ ss) k = kept-all ch (followed p s) ss (kept-followed ch p s k)

pub kept : (ch : Channel) (ss : List ℤ) → ch.begun ≡ true → length ch.ring ≡ 302 → Kept ch (channel_after ch ss)
kept ch ss b l = kept-all ch ch ss (record { begun = b; sized = l; interval = refl; lot = refl })

-- the channel after one more setpoint
after-suc : (ch : Channel) (ss : List ℤ) (i : ℕ) → i < length ss → channel_after ch (take (suc i) ss) ≡ followed (channel_after ch (take i ss)) (get_or ss i (pos 0))
after-suc ch ss i h = ran-more followed oga_after ch ss i (pos 0) h

-- ---- the place of the newest

next_place_lem : (m t : ℕ) → ((m + t) % 302 % 302 + 1) % 302 ≡ (m + suc t) % 302
next_place_lem m t = omega arith

module _ (ch : Channel) (ss : List ℤ) (begun : ch.begun ≡ true) (sized : length ch.ring ≡ 302) where
  newest-at : (t : ℕ) → t < length ss → (channel_after ch (take (suc t) ss)).newest ≡ (ch.newest % 302 + suc t) % 302
  unfolding ran after
  newest-at zero h = ap (λ (c : Channel). c.newest) (after-suc ch ss 0 h) ∙ followed-newest ch (get_or ss 0 (pos 0)) begun
  newest-at (suc t) h =
      let q = channel_after ch (take (suc t) ss) in
      ap (λ (c : Channel). c.newest) (after-suc ch ss (suc t) h)
      ∙ followed-newest q (get_or ss (suc t) (pos 0)) (kept ch (take (suc t) ss) begun sized).begun
      ∙ rw (newest-at t (omega arith)) (next_place_lem (ch.newest % 302) (suc t))

-- ---- the past is a line

module _ (ch : Channel) (ss line : List ℤ) (begun : ch.begun ≡ true) (l : Lined ch.ring (ch.newest % 302) ss line (length ss)) where
  pub past-at : (t k : ℕ) → t ≤ length ss → k < 302 → past_of (channel_after ch (take t ss)) k ≡ back_at line (301 + t) k
  unfolding ran past_of back_at aged_at fresh_at
  past-at zero k h b =
      let e : 301 + 0 - k ≡ 301 - k = omega arith in
      let d : 301 - (301 - k) ≡ k = omega arith in
      rw e (sym (rw d at (l.aged.at (301 - k) (omega arith) (omega arith))))
  past-at (suc t) zero h b =
      let q = channel_after ch (take t ss) in
      let s = get_or ss t (pos 0) in
      let k = kept ch (take t ss) begun l.sized in
      let e : 301 + suc t - 0 ≡ 302 + t = omega arith in
      let d : 302 + t - 302 ≡ t = omega arith in
      rw (after-suc ch ss t (omega arith), e)
      (followed-past q s k.begun 0 ∙ stored-newest q s k.sized ∙ sym (rw d at (l.fresh.at (302 + t) (omega arith) (omega arith))))
  past-at (suc t) (suc k) h b =
      let q = channel_after ch (take t ss) in
      let s = get_or ss t (pos 0) in
      let kp = kept ch (take t ss) begun l.sized in
      let e : 301 + suc t - suc k ≡ 301 + t - k = omega arith in
      rw (after-suc ch ss t (omega arith), e)
      (followed-past q s kp.begun (suc k) ∙ stored-older q s kp.sized k (omega arith) ∙ past-at t k (omega arith) (omega arith))

  -- at setpoint i, as far as the ring reaches
  pub past-here : (i : ℕ) → i < length ss → (k : ℕ) → k < 302 → past_at ch ss i k ≡ back_at line (302 + i) k
  past-here i h k b = let e : 301 + (i + 1) ≡ 302 + i = omega arith in rw e at (past-at (i + 1) k (omega arith) b)

-- ---- the bounds

after-in : (side : Side) (q : Channel) (s : ℤ) → bound_after side q s ≡ bound_in side (followed q s)
unfolding oga_after uga_after
after-in Upper q s = refl
after-in Lower q s = refl

-- the machine is run by `followed` alone, whatever it puts out
ran-bound : (side : Side) (ch : Channel) (ss : List ℤ) → ran followed (bound_after side) ch ss ≡ channel_after ch ss
unfolding ran
ran-bound side ch [] = refl
ran-bound side ch (s ∷ ss) = ran-bound side (followed ch s) ss

module _ (ch : Channel) (ss line : List ℤ) (begun : ch.begun ≡ true) (l : Lined ch.ring (ch.newest % 302) ss line (length ss)) where
  pub held_after_lem : (side : Side) (t : ℕ) → t ≤ length ss → bound_in side (channel_after ch (take t ss)) ≡ held_after side ch.interval ch.lot line (bound_in side ch) t
  unfolding ran held_after
  held_after_lem side zero h = refl
  held_after_lem side (suc t) h =
      let q = channel_after ch (take t ss) in
      let s = get_or ss t (pos 0) in
      let k = kept ch (take t ss) begun l.sized in
      let e = after-suc ch ss t (omega arith) in
      let past : (j : ℕ) → j < 302 → past_of (followed q s) j ≡ back_at line (302 + t) j = rw (add-one, e) at (past-here ch ss line begun l t (omega arith)) in
      rw (e, ← held_after_lem side t (omega arith))
      (rw (k.interval, k.lot) at (followed-bound q s k.begun side) ∙ next-cong ch.interval (past_of (followed q s)) (back_at line (302 + t)) past side ch.lot (bound_in side q))

  -- the bounds at each setpoint
  pub held-along : (side : Side) → table (held_at side ch.interval ch.lot line (bound_in side ch)) (length ss) ≡ outputs followed (bound_after side) ch ss
  held-along side =
      let f = held_at side ch.interval ch.lot line (bound_in side ch) in
      ext_get_or (pos 0) (table f (length ss)) (outputs followed (bound_after side) ch ss) (table-length f (length ss) ∙ sym (outputs-length followed (bound_after side) ch ss))
      (λ i b.
      let h : i < length ss = omega (arith, table-length f (length ss)) in
      table_at f (length ss) i h
      ∙ sym (outputs-at followed (bound_after side) ch ss i (pos 0) (pos 0) h ∙ at side i h))
    where
      at : (side : Side) (i : ℕ) → i < length ss → bound_after side (ran followed (bound_after side) ch (take i ss)) (get_or ss i (pos 0))
          ≡ held_after side ch.interval ch.lot line (bound_in side ch) (suc i)
      at side i h =
          rw (ran-bound side ch (take i ss), after-in side (channel_after ch (take i ss)) (get_or ss i (pos 0)), ← after-suc ch ss i h)
          (held_after_lem side (suc i) (omega arith))

-- ---- the state after

module _ (ch : Channel) (ss line : List ℤ) (some : 0 < length ss) (begun : ch.begun ≡ true) (l : Lined ch.ring (ch.newest % 302) ss line (length ss)) where
  pub newest-after : (channel_after ch ss).newest ≡ (ch.newest % 302 + length ss) % 302
  newest-after =
      let e : suc (length ss - 1) ≡ length ss = omega arith in
      rw (e, take-length ss) at (newest-at ch ss begun l.sized (length ss - 1) (omega arith))

  pub ring-after : (ring : List ℤ) → length ring ≡ 302 → Fills (ring_at line (length ss) ((ch.newest % 302 + length ss) % 302)) 0 302 ring → ring ≡ (channel_after ch ss).ring
  unfolding ring_at past_of back_in
  ring-after ring sized r =
      let q = channel_after ch ss in
      let at = (ch.newest % 302 + length ss) % 302 in
      let k = kept ch ss begun l.sized in
      ext_get_or (pos 0) ring q.ring (sized ∙ sym k.sized)
      (λ j h.
      let small : j < 302 = omega arith in
      let low : at < 302 = omega arith in
      let back = (at + 302 - j) % 302 in
      let e : (q.newest % 302 + 302 - back) % 302 ≡ j = rw newest-after (turned at j low small) in
      let p = rw (take-length ss, e) at (past-at ch ss line begun l (length ss) back (omega arith) (omega arith)) in
      r.at j (omega arith) small ∙ sym p)
    where
      turned : (a j : ℕ) → a < 302 → j < 302 → (a % 302 + 302 - (a + 302 - j) % 302) % 302 ≡ j
      turned a j x y = omega arith

-- the line with as many setpoints as are led along
pub lined-take : (ring : List ℤ) (newest : ℕ) (xs line : List ℤ) (n : ℕ) → n ≤ length xs → Lined ring newest xs line n → Lined ring newest (take n xs) line (length (take n xs))
unfolding fresh_at
lined-take ring newest xs line n h l =
    rw (length-take-le n xs h)
    (record { sized = l.sized; aged = l.aged; fresh = record { at = λ k a b. l.fresh.at k a b ∙ sym (get_or-take n xs (k - 302) (pos 0) (omega arith)) } })

-- ---- the first setpoint's past is primed once

pub primed-true : (ch : Channel) (s : ℤ) → (primed_of ch s).begun ≡ true
unfolding primed_of filled_of
primed-true ch s = go ch.begun refl
  where
    go : (b : Bool) → ch.begun ≡ b → (cond b ch (filled_of ch s)).begun ≡ true
    go true e = e
    go false e = refl

followed-primed : (ch : Channel) (s : ℤ) → followed (primed_of ch s) s ≡ followed ch s
unfolding followed
followed-primed ch s = rw (primed-later (primed_of ch s) s (primed-true ch s))

bound-primed : (side : Side) (ch : Channel) (s : ℤ) → bound_after side (primed_of ch s) s ≡ bound_after side ch s
bound-primed side ch s = after-in side (primed_of ch s) s ∙ ap (bound_in side) (followed-primed ch s) ∙ sym (after-in side ch s)

track-cons : (ch : Channel) (x : ℤ) (l : List ℤ) → track_of ch (x ∷ l) ≡ record {
  channel = channel_after (followed ch x) l;
  ogas = oga_after ch x ∷ ogas_along (followed ch x) l;
  ugas = uga_after ch x ∷ ugas_along (followed ch x) l;
}
unfolding track_of ran outputs
track-cons ch x l = refl

pub track-primed : (ch : Channel) (xs : List ℤ) (n : ℕ) → 0 < n → 0 < length xs → track_of (primed_of ch (get_or xs 0 (pos 0))) (take n xs) ≡ track_of ch (take n xs)
track-primed ch [] n a b = absurd (omega arith)
track-primed ch (x ∷ xs) zero a b = absurd (omega arith)
track-primed ch (x ∷ xs) (suc n) a b =
    rw (track-cons (primed_of ch x) x (take n xs), track-cons ch x (take n xs), bound-primed Upper ch x, bound-primed Lower ch x, followed-primed ch x)

-- along no setpoint
pub track-none : (ch : Channel) (xs ogas ugas : List ℤ) (n : ℕ) → n ≡ 0 → Follows ch (take n xs) ogas ugas ogas ugas ch
unfolding track_of ran outputs
track-none ch xs ogas ugas n e = rw e (record { channel = refl; above = refl; below = refl })

-- as many as there is room for
pub count-all : (n ogas ugas : ℕ) → n ≤ 900 → n ≤ ogas → n ≤ ugas → led_count n ogas ugas ≡ n
unfolding led_count least_of
count-all n ogas ugas a b c = omega arith

-- ---- a track by its parts

channel-of : (q : Channel) (ring : List ℤ) (newest : ℕ) (begun : Bool) (i : Interval) (lot : ℕ) (oga uga : ℤ)
    → ring ≡ q.ring → newest ≡ q.newest → begun ≡ q.begun → i ≡ q.interval → lot ≡ q.lot → oga ≡ q.oga.0 → uga ≡ q.uga.0
    → ◌≡◌ {A = Channel} (record { ring = ring; newest = newest; begun = begun; interval = i; lot = lot; oga = record { 0 = oga }; uga = record { 0 = uga } }) q
channel-of q ring newest begun i lot oga uga r n b e l o u = rw (r, n, b, e, l, o, u)

module _ (ch : Channel) (ss line : List ℤ) (begun : ch.begun ≡ true) (l : Lined ch.ring (ch.newest % 302) ss line (length ss)) where
  pub tracks : (ring : List ℤ) (newest : ℕ) (last : Bounds) (ogas ugas ogas' ugas' : List ℤ) → ring ≡ (channel_after ch ss).ring → newest ≡ (channel_after ch ss).newest
      → Leads ch.interval ch.lot (record { oga = ch.oga; uga = ch.uga }) line (length ss) ogas ugas ogas' ugas' last
      → Follows ch ss ogas ugas ogas' ugas'
      (record { ring = ring; newest = newest; begun = ch.begun; interval = ch.interval; lot = ch.lot; oga = last.oga; uga = last.uga })
  unfolding track_of
  tracks ring newest last ogas ugas ogas' ugas' r n led =
      let k = kept ch ss begun l.sized in
      let over = rw (take-length ss) at (held_after_lem ch ss line begun l Upper (length ss) (omega arith)) in
      let under = rw (take-length ss) at (held_after_lem ch ss line begun l Lower (length ss) (omega arith)) in
      let q = channel_after ch ss in
      let oga = ap (λ (b : Bounds). b.oga.0) led.last ∙ sym over in
      let uga = ap (λ (b : Bounds). b.uga.0) led.last ∙ sym under in
      record {
        channel = channel-of q ring newest ch.begun ch.interval ch.lot last.oga.0 last.uga.0 r n (begun ∙ sym k.begun) (sym k.interval) (sym k.lot) oga uga;
        above = led.above ∙ ap (λ (xs : List ℤ). xs ++ drop (length ss) ogas) (held-along ch ss line begun l Upper);
        below = led.below ∙ ap (λ (xs : List ℤ). xs ++ drop (length ss) ugas) (held-along ch ss line begun l Lower);
      }

-- a channel that stands for a series stands for the longer one afterwards
module _ (i : Interval) (lot : ℕ) (start : Start) where
  pub channel-history : (ch : Channel) (h ss : List ℤ) → StandsFor i lot start ch h → StandsFor i lot start (channel_after ch ss) (series_after h ss)
  unfolding ran series_after
  channel-history ch h [] r = r
  channel-history ch h (s ∷ ss) r = channel-history (followed ch s) (s ∷ h) ss (follows ch s start h r)
