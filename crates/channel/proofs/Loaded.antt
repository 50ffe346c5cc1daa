-- A channel with a block loaded stands for it, and the ring and the two bounds hold the block of what a channel stands for.
-- Assumes nothing.
use Prim.Native.Nat.{ℕ, ◌<◌}
use mathlib.Core.Path.{◌≡◌, refl, ap, ◌∙◌}
use mathlib.Core.List.{List, [], ◌∷◌, ◌++◌, append_assoc, append-nil}
use native.Mathlib.Omega.{arith}
use lib.IntN.{ℤ}
use lib.ListN.{length, length-set, length-append}
use Rattle.arithmetic.specs.Power.{units_of}
use Rattle.vocabulary.specs.declared.interval.Interval.{Interval}
use Rattle.vocabulary.specs.Interval.{windows_of}
use Rattle.bounds.proofs.Scan.{within}
use Rattle.channel.specs.declared.Channel.{Channel}
use Rattle.channel.specs.Start.{Block, Start, fresh, carried}
use Rattle.channel.specs.Backward.{series_after, before, past_from, oga_of, uga_of}
use Rattle.channel.specs.Block.{block_of}
use Rattle.channel.specs.State.{past_of, new_of, filled_of, after, stored_of, recalled_of, recalled_all, bounded_of, loaded_of, start_with, block_with, StandsFor, handed_on}
use Rattle.channel.proofs.Series.{series-length, series-end}
use Rattle.channel.proofs.Back.{back-same}
use Rattle.channel.proofs.Ring.{primed-first, primed-later, filled-sized, first-agrees, stored-behind, begun-known, new-stands}

module _ {i : Interval} {lot : ℕ} where
  -- ONE PAST SETPOINT MORE
  pub recalls : (ch : Channel) (s : ℤ) (start : Start) → StandsFor i lot start ch [] → StandsFor i lot (start_with start s) (recalled_of ch s) []
  unfolding recalled_of stored_of filled_of series_after oga_of uga_of
  recalls ch s fresh r =
      rw (primed-first ch s r.begun)
      (record {
        usable = omega arith;
        interval = r.interval;
        lot = r.lot;
        begun = refl;
        sized = length-set (filled_of ch s).ring (after (filled_of ch s).newest) s ∙ filled-sized ch s;
        back = first-agrees ch s;
        oga = refl;
        uga = refl;
      })
  recalls ch s (carried b) r =
      let known : 0 < length (before (carried b)) = omega (arith, r.usable, series-length [] b.setpoints) in
      let begun = r.begun ∙ begun-known (before (carried b)) known in
      let more = series-end [] b.setpoints s in
      rw (primed-later ch s begun)
      (record {
        usable = omega (arith, length-append b.setpoints (s ∷ []));
        interval = r.interval;
        lot = r.lot;
        begun = rw more begun;
        sized = length-set ch.ring (after ch.newest) s ∙ r.sized;
        back = rw more (stored-behind ch s (before (carried b)) r.sized known r.back);
        oga = r.oga;
        uga = r.uga;
      })

  -- THE BOUNDS THAT BELONG TO THEM
  pub bounds_given : (ch : Channel) (oga uga : ℤ) (b : Block) → StandsFor i lot (carried b) ch [] → StandsFor i lot (carried (block_with b oga uga)) (bounded_of ch oga uga) []
  unfolding bounded_of past_of oga_of uga_of
  bounds_given ch oga uga b r =
      record {
        usable = r.usable;
        interval = r.interval;
        lot = r.lot;
        begun = r.begun;
        sized = r.sized;
        back = r.back;
        oga = refl;
        uga = refl;
      }

  -- several past setpoints
  recall-all : (ch : Channel) (b : Block) (ss : List ℤ) → StandsFor i lot (carried b) ch []
      → StandsFor i lot (carried (record { oga = b.oga; uga = b.uga; setpoints = b.setpoints ++ ss })) (recalled_all ch ss) []
  unfolding recalled_all
  recall-all ch b [] r = rw (append-nil b.setpoints) r
  recall-all ch b (s ∷ ss) r =
      rw (append_assoc b.setpoints (s ∷ []) ss) at
      (recall-all (recalled_of ch s) (record { oga = b.oga; uga = b.uga; setpoints = b.setpoints ++ (s ∷ []) }) ss (recalls ch s (carried b) r))

-- A CHANNEL WITH A BLOCK LOADED STANDS FOR IT
pub loaded-stands : (i : Interval) (lot : ℕ) (b : Block) → 0 < length b.setpoints → StandsFor i lot (carried b) (loaded_of i lot b) []
unfolding loaded_of recalled_all
loaded-stands i lot b some = go b.setpoints some
  where
    go : (ss : List ℤ) → 0 < length ss
        → StandsFor i lot (carried (record { oga = b.oga; uga = b.uga; setpoints = ss })) (bounded_of (recalled_all (new_of i lot) ss) b.oga b.uga) []
    go [] h = absurd (omega arith)
    go (s ∷ ss) h =
        let one : Block = record { oga = units_of s; uga = units_of s; setpoints = s ∷ [] } in
        bounds_given (recalled_all (recalled_of (new_of i lot) s) ss) b.oga b.uga (record { oga = units_of s; uga = units_of s; setpoints = s ∷ ss })
        (recall-all (recalled_of (new_of i lot) s) one ss (recalls (new_of i lot) s fresh (new-stands i lot)))

-- THE BLOCK IN THE RING: what a channel hands on is the block of its start and series
pub block_held : {i : Interval} {lot : ℕ} {start : Start} {ch : Channel} {h : List ℤ} → StandsFor i lot start ch h → handed_on ch ≡ block_of i lot start h
unfolding block_of handed_on past_of
block_held {i} {lot} {start} {ch} {h} r =
    rw (r.interval, r.oga, r.uga)
    (ap (λ (ss : List ℤ). record { oga = oga_of i lot start h; uga = uga_of i lot start h; setpoints = ss })
    (back-same (past_of ch) (past_from start h) (windows_of i).to (λ k l. let w = within i in r.back k (omega arith))))
