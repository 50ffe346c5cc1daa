-- The channel along setpoints, one after the other: after all of them, and its bounds and its past at each.
use Rattle.std.specs.Prelude.{ℕ, ◌+◌, ◌-◌, ◌%◌, ◌≡◌, List, ◌++◌, ℤ, pos, get_or, take, drop, length}
use Rattle.series.specs.Scan.{ran, outputs}
use Rattle.series.specs.Places.{Fills}
use Rattle.bounds.specs.Widening.{back_at}
use Rattle.channel.specs.declared.Channel.{Channel}
use Rattle.channel.specs.State.{back_in, past_of, followed}

-- OGA and UGA after one more setpoint
unfoldable pub oga_after : Channel → ℤ → ℤ
oga_after ch s = (followed ch s).oga.0

unfoldable pub uga_after : Channel → ℤ → ℤ
uga_after ch s = (followed ch s).uga.0

-- the channel after setpoints, and the bounds at each
abbrev pub channel_after : Channel → List ℤ → Channel
channel_after = ran followed oga_after

abbrev pub ogas_along : Channel → List ℤ → List ℤ
ogas_along = outputs followed oga_after

abbrev pub ugas_along : Channel → List ℤ → List ℤ
ugas_along = outputs followed uga_after

-- the past that the channel has at setpoint i of a series
abbrev pub past_at : Channel → List ℤ → ℕ → ℕ → ℤ
past_at ch ss i = past_of (channel_after ch (take (i + 1) ss))

-- ---- as code holds them

-- the channel after setpoints, with the bounds at each
pub record Track : Type 0 where
  pub channel : Channel
  pub ogas : List ℤ
  pub ugas : List ℤ

unfoldable pub track_of : Channel → List ℤ → Track
track_of ch ss = record { channel = channel_after ch ss; ogas = ogas_along ch ss; ugas = ugas_along ch ss }

-- a channel that is answered, with the bounds at n setpoints at the front of two series that held others
pub record Tracked (t : Track) (n : ℕ) (ogas ugas ogas' ugas' : List ℤ) (r : Channel) : Type 0 where
  pub channel : r ≡ t.channel
  pub above : ogas' ≡ t.ogas ++ drop n ogas
  pub below : ugas' ≡ t.ugas ++ drop n ugas

abbrev pub Follows : Channel → List ℤ → List ℤ → List ℤ → List ℤ → List ℤ → Channel → Type 0
Follows ch ss = Tracked (track_of ch ss) (length ss)

-- place k of a line, from a ring, oldest first
unfoldable pub aged_at : List ℤ → ℕ → ℕ → ℤ
aged_at ring newest k = back_in ring newest (301 - k)

-- and from the setpoints after it
unfoldable pub fresh_at : List ℤ → ℕ → ℤ
fresh_at ss k = get_or ss (k - 302) (pos 0)

-- a line: the ring's setpoints, oldest first, then n that follow
pub record Lined (ring : List ℤ) (newest : ℕ) (ss line : List ℤ) (n : ℕ) : Type 0 where
  pub sized : length ring ≡ 302
  pub aged : Fills (aged_at ring newest) 0 302 line
  pub fresh : Fills (fresh_at ss) 302 (302 + n) line

-- place k of a ring whose newest, at place `newest`, is place 301 + n of a line
unfoldable pub ring_at : List ℤ → ℕ → ℕ → ℕ → ℤ
ring_at line n newest k = back_at line (301 + n) ((newest + 302 - k) % 302)
