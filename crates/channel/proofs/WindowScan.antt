-- Both windows' largest and smallest setpoints, which the passes over a quarter hour find for all samples at once, are those that a scan finds at each sample.
-- Assumes nothing.
use mathlib.Core.Path.{◌≡◌, sym, ap, ◌∙◌}
use mathlib.Core.List.{List, [], ◌++◌}
use Prim.Native.Nat.{ℕ, suc, ◌+◌, ◌%◌, ◌<◌}
use native.Mathlib.Omega.{arith}
use lib.IntN.{ℤ, pos}
use lib.ListN.{length, take, get_or, length-append}
use Rattle.vocabulary.specs.declared.interval.Interval.{Interval}
use Rattle.bounds.specs.Side.{seen_by}
use Rattle.bounds.specs.Widening.{back_at}
use Rattle.bounds.specs.Line.{Shown}
use Rattle.bounds.proofs.Agreeing.{seen-cong}
use Rattle.bounds.proofs.LineLaws.{seen_at, seen-at}
use Rattle.channel.specs.declared.Channel.{Channel}
use Rattle.channel.specs.Start.{Start}
use Rattle.channel.specs.Bounds.{Past, soll}
use Rattle.channel.specs.Backward.{series_after, past_from}
use Rattle.channel.specs.State.{past_of, primed_of, StandsFor}
use Rattle.channel.specs.Along.{channel_after, track_of, Lined}
use Rattle.channel.proofs.Series.{series-on}
use Rattle.channel.proofs.Timed.{told, take_behind, all_back}
use Rattle.channel.proofs.AlongLaws.{primed-true, track-primed, past-here, channel-history}

-- the setpoints up to sample k of those that follow some others
told-following : (before ss : List ℤ) (k : ℕ) → told (before ++ ss) (length before + k) ≡ series_after (series_after [] before) (take (k + 1) ss)
unfolding told
told-following before ss k =
    let e : suc (length before + k) ≡ length before + (k + 1) = omega arith in
    ap (series_after []) (rw e (take_behind before ss (k + 1))) ∙ series-on [] before (take (k + 1) ss)

-- `ch` is the channel after the samples `before`; the setpoints `ss` follow. `line` is the line of its ring and of these that the passes go over, and `highest`,
-- `lowest`, `most` and `least` are what they hand on.
module _ (i : Interval) (lot : ℕ) (start : Start) (before ss : List ℤ) (ch : Channel) (stands : StandsFor i lot start ch (series_after [] before)) where
  abbrev ready : Channel
  ready = primed_of ch (get_or ss 0 (pos 0))

  -- the past that the channel holds at sample k is the one of all setpoints
  past-is-soll : (k j : ℕ) → k < length ss → j < 302 → past_of (channel_after ready (take (k + 1) ss)) j
      ≡ soll (record { start = start; interval = i; lot = lot; setpoints = before ++ ss }) (length before + k) j
  unfolding track_of
  past-is-soll k j h b =
      let p : Past = record { start = start; interval = i; lot = lot; setpoints = before ++ ss } in
      let same = ap (λ t. t.channel) (track-primed ch ss (k + 1) (omega arith) (omega arith)) in
      let s = channel-history i lot start ch (series_after [] before) (take (k + 1) ss) stands in
      ap (λ (c : Channel). past_of c j) same
      ∙ s.back j b
      ∙ ap (λ (l : List ℤ). past_from start l j) (sym (told-following before ss k))
      ∙ ap (λ (f : ℕ → ℤ). f j) (all_back p (length before + k) (omega (arith, length-append before ss)))

  -- THE WINDOWS ARE THE SCAN: at each sample the passes show the largest and the smallest setpoint of the near window and of the spread window, each
  -- looked up over all setpoints back from that sample (`seen_by` is `largest` and `smallest` of both windows)
  pub windows-are-the-scan : (line highest lowest most least : List ℤ)
      → Lined ready.ring (ready.newest % 302) ss line (length ss) → Shown i line (length ss) highest lowest most least
      → (k : ℕ) → k < length ss → seen_at i lot line (length ss) highest lowest most least k
      ≡ seen_by i (soll (record { start = start; interval = i; lot = lot; setpoints = before ++ ss }) (length before + k))
  windows-are-the-scan line highest lowest most least l shown k h =
      let p : Past = record { start = start; interval = i; lot = lot; setpoints = before ++ ss } in
      seen-at i lot line (length ss) highest lowest most least shown k h
      ∙ seen-cong i (back_at line (302 + k)) (soll p (length before + k))
      (λ j b. sym (past-here ready ss line (primed-true ch (get_or ss 0 (pos 0))) l k h j b) ∙ past-is-soll k j h b)
