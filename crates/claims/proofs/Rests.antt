-- The limits of contracts rise, so nothing of a power is lost: for each sample the slices of a direction's contracts and the rest above the last limit
-- are the power, and for each series their sums are its sum.
-- Assumes nothing.
use Rattle.std.proofs.Common.{◌≡◌, ℕ, ◌+◌, ◌-◌, ◌^◌, ◌<◌, List, [], ◌∷◌, arith}
use Rattle.series.specs.Sums.{sum_of}
use Rattle.series.specs.Scan.{outputs, each}
use Rattle.series.specs.Cuts.{cuts_of, last_of, slice_in, sliced_in, above_of, pieces_of}
use Rattle.series.proofs.Order.{Rising}
use Rattle.series.proofs.Order.Rising.{last, next}
use Rattle.series.proofs.Whole.{sample-whole, series-whole, pieces_whole}
use Rattle.contracts.specs.declared.terms.Terms.{Terms}
use Rattle.contracts.specs.Terms.{upper_of, limits_of}

limits-rise : (low : ℕ) (ts : List Terms) → Rising low (outputs upper_of upper_of low ts)
unfolding outputs upper_of
limits-rise low [] = last
limits-rise low (t ∷ ts) = next {low = low} {high = upper_of low t} (omega arith) (limits-rise (upper_of low t) ts)

module _ (ts : List Terms) where
  -- what a direction's contracts have in sum
  abbrev pub awarded : ℕ
  awarded = last_of (limits_of ts)

  pub sample-parted : (v : ℕ) → sum_of (each (slice_in v) (cuts_of (limits_of ts))) + (v - awarded) ≡ v
  sample-parted v = sample-whole v (limits-rise 0 ts)

  pub series-parted : (powers : List ℕ) → sum_of (each (sliced_in powers) (cuts_of (limits_of ts))) + above_of awarded powers ≡ sum_of powers
  series-parted powers = series-whole powers (limits-rise 0 ts)

  -- and so do the pieces that the code hands back add up
  pub pieces-parted : (powers : List ℕ) → sum_of powers < 2 ^ 64
      → sum_of (pieces_of (limits_of ts) powers).sums + (pieces_of (limits_of ts) powers).rest ≡ sum_of powers
  pieces-parted powers h = pieces_whole powers (limits-rise 0 ts) h
