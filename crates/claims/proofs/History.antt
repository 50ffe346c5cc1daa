-- A quarter hour that a channel follows has the OGA and UGA of the start and the series of setpoints that the channel stands for.
-- Assumes nothing.
use Rattle.std.proofs.Common.{◌≡◌, ℕ, List, [], ◌∷◌, ℤ, refl}
use Rattle.channel.specs.declared.Channel.{Channel}
use Rattle.vocabulary.specs.declared.interval.Interval.{Interval}
use Rattle.channel.specs.Start.{Start}
use Rattle.channel.specs.State.{followed, StandsFor}
use Rattle.channel.proofs.Ring.{follows}
use Rattle.series.specs.Scan.{outputs}
use Rattle.channel.specs.Along.{oga_after, uga_after, ogas_along, ugas_along}
use Rattle.claims.specs.Powers.{ogas_over, ugas_over, samples_over}
use Rattle.claims.specs.Claims.{samples_along}

module _ (i : Interval) (lot : ℕ) (start : Start) where
  pub ogas-history : (ch : Channel) (h ss : List ℤ) → StandsFor i lot start ch h → ogas_along ch ss ≡ ogas_over i lot start h ss
  unfolding outputs ogas_over oga_after
  ogas-history ch h [] r = refl
  ogas-history ch h (s ∷ ss) r = let d = follows ch s start h r in rw (ogas-history (followed ch s) (s ∷ h) ss d, d.oga)

  pub ugas-history : (ch : Channel) (h ss : List ℤ) → StandsFor i lot start ch h → ugas_along ch ss ≡ ugas_over i lot start h ss
  unfolding outputs ugas_over uga_after
  ugas-history ch h [] r = refl
  ugas-history ch h (s ∷ ss) r = let d = follows ch s start h r in rw (ugas-history (followed ch s) (s ∷ h) ss d, d.uga)

  pub samples-history : (ch : Channel) (h ss vs : List ℤ) → StandsFor i lot start ch h → samples_along ch ss vs ≡ samples_over i lot start h ss vs
  samples-history ch h ss vs r = rw (ogas-history ch h ss r, ugas-history ch h ss r)
