-- The bounds that follow the setpoints of a quarter hour enclose them, and a whole quarter hour of samples has 900 seconds.
-- Assumes nothing.
use Rattle.std.proofs.Common.{◌≡◌, ℕ, zero, suc, ◌*◌, ◌<◌, ◌≤◌, List, [], ◌∷◌, ◌++◌, length, get_or, take, ℤ, pos, sym, refl, ◌∙◌, arith, length-append, length-take-le, take_at}
use Rattle.channel.specs.declared.Channel.{Channel}
use Rattle.vocabulary.specs.declared.interval.Interval.{Interval}
use Rattle.vocabulary.specs.declared.interval.Interval.TheVariants.{One, Three, Four}
use Rattle.vocabulary.specs.Interval.{windows_of}
use Rattle.channel.specs.State.{followed}
use Rattle.channel.proofs.Ring.{followed-sized}
use Rattle.channel.proofs.Enclosed.{uga-under, oga-over}
use Rattle.series.specs.Scan.{outputs}
use Rattle.series.proofs.Scanned.{outputs-length}
use Rattle.values.specs.Part.{Within}
use Rattle.channel.specs.Along.{oga_after, uga_after, channel_after, ogas_along, ugas_along, track_of, Follows}
use Rattle.contracts.specs.declared.terms.Terms.{Terms}
use Rattle.claims.specs.declared.hour.Energies.{Energies}
use Rattle.claims.specs.declared.hour.Measured.{Measured}
use Rattle.claims.specs.Claims.{samples_along, measured_of}
use Rattle.claims.specs.Views.{samples_in, measured_in}
use Rattle.claims.specs.Room.{Timely, Led}

abbrev both : Channel → Energies → Energies → Measured
both after above below = record { channel = after; positive = above; negative = below }

-- what is measured of both directions, one after the other
pub both-are : (after : Channel) (above above' below below' : Energies) → above ≡ above' → below ≡ below' → both after above below ≡ both after above' below'
both-are after above above' below below' e f = rw (e, f)

within : (ch : Channel) (ss : List ℤ) → length ch.ring ≡ 302 → (i : ℕ) → i < length ss
    → Within (get_or ss i (pos 0)) (get_or (ogas_along ch ss) i (pos 0)) (get_or (ugas_along ch ss) i (pos 0))
unfolding outputs oga_after uga_after
within ch [] h i k = absurd (omega arith)
within ch (s ∷ ss) h zero k = record { above = uga-under ch s h; below = oga-over ch s h }
within ch (s ∷ ss) h (suc i) k = within (followed ch s) ss (followed-sized ch s h) i (omega arith)

pub quarter-of : (i : Interval) (n : ℕ) → n ≡ (windows_of i).samples → (n ≤ 900) × ((windows_of i).seconds * n ≤ 900)
quarter-of One n e = (omega arith, omega arith)
quarter-of Three n e = (omega arith, omega arith)
quarter-of Four n e = (omega arith, omega arith)

-- the bounds at the front of a series
front : (n : ℕ) (bounds rest : List ℤ) → length bounds ≡ n → take n (bounds ++ rest) ≡ bounds
front n bounds rest e = take_at bounds rest n e

longer : (n : ℕ) (bounds rest : List ℤ) → length bounds ≡ n → n ≤ length (bounds ++ rest)
longer n bounds rest e = rw length-append (omega arith)

-- a whole quarter hour from the start of two arrays
module _ (ch : Channel) (i : Interval) (ss vs : List ℤ) (held : 900 ≤ length ss) where
  abbrev n : ℕ
  n = (windows_of i).samples

  count : length (take n ss) ≡ n
  count = length-take-le n ss (omega (arith, quarter-of i n refl))

  ogas-long : length (ogas_along ch (take n ss)) ≡ n
  ogas-long = outputs-length followed oga_after ch (take n ss) ∙ count

  ugas-long : length (ugas_along ch (take n ss)) ≡ n
  ugas-long = outputs-length followed uga_after ch (take n ss) ∙ count

  module _ {ogas ugas ogas' ugas' : List ℤ} {after : Channel} (f : Follows ch (take n ss) ogas ugas ogas' ugas' after) where
    -- the first bounds of both series are those of the samples
    pub samples-led : samples_in ogas' ugas' n ss vs ≡ samples_along ch (take n ss) (take n vs)
    unfolding track_of
    samples-led = rw (f.above, f.below, front n (ogas_along ch (take n ss)) _ ogas-long, front n (ugas_along ch (take n ss)) _ ugas-long)

    pub enough-led : Led ogas' ugas' n
    unfolding track_of
    enough-led =
        record {
          few = (quarter-of i n refl).0;
          ogas = rw f.above (longer n (ogas_along ch (take n ss)) _ ogas-long);
          ugas = rw f.below (longer n (ugas_along ch (take n ss)) _ ugas-long);
        }

    channel-led : after ≡ channel_after ch (take n ss)
    unfolding track_of
    channel-led = f.channel

    -- measured side by side
    pub measured-led : (ps ns : List Terms) → measured_in after (windows_of i).seconds (samples_in ogas' ugas' n ss vs) ps ns ≡ measured_of ch i (take n ss) (take n vs) ps ns
    unfolding measured_of
    measured-led ps ns = rw (channel-led, samples-led)

  -- no sum of either direction wraps
  pub timely : 900 ≤ length vs → length ch.ring ≡ 302 → Timely (samples_along ch (take n ss) (take n vs)) (windows_of i).seconds
  timely room ring =
      let q = quarter-of i n refl in
      let actuals : length (take n vs) ≡ n = length-take-le n vs (omega (arith, q)) in
      record {
        level = record { actuals = actuals ∙ sym count; ogas = ogas-long ∙ sym count; ugas = ugas-long ∙ sym count; few = omega (arith, count, q) };
        quarter = rw count q.1;
        within = within ch (take n ss) ring;
      }
