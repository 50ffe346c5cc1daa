-- The bound is met: 16 kWh lie between the pool line and the lines with the rest, and 16 is the most that 32 contracts allow (`accepted-explained`).
-- Assumes nothing.
use Prim.Native.Nat.{ℕ, ◌+◌}
use mathlib.Core.Path.{◌≡◌, refl, ◌∙◌}
use lib.ListN.{replicate}
use Rattle.arithmetic.specs.Whole.{max_z, up, least_of}
use Rattle.arithmetic.specs.Power.{units_of}
use Rattle.arithmetic.specs.Energy.{kwh_of}
use Rattle.series.specs.Scan.{each, outputs}
use Rattle.series.specs.Sums.{over_of, sum_of}
use Rattle.series.specs.Slices.{slice_of}
use Rattle.vocabulary.specs.declared.direction.Direction.{Direction}
use Rattle.vocabulary.specs.declared.direction.Direction.TheVariants.{Positive, Negative}
use Rattle.values.specs.Values.{plus}
use Rattle.contracts.specs.Terms.{upper_of}
use Rattle.claims.specs.Powers.{power_at}
use Rattle.claims.specs.Claims.{claim_from}
use Rattle.quarter.specs.Quarter.{figures_of, figures_at}
use Rattle.settlement.specs.Calls.{interval_of}
use Rattle.meaning.specs.Figures.{claim_by, lines_by, rest_by, pool_by}
use Rattle.meaning.specs.Given.{actual_in, quarter_samples, setpoints_in, lines_in, pool_in}
use Rattle.explain.specs.Explained.{Column, SO, on_line, on_pool, rest_on, added_up, distance}
use Rattle.explain.specs.Sharpest.{sharpest, Shows, Sharpest}
use Rattle.explain.proofs.Steady.{steady-pool, steady-lines, steady-rest}
use Rattle.explain.proofs.SharpInput.{sharp-accepted}

-- the column SO by computing; the others are the same, since every actual is its setpoint
record Computed (d : Direction) (q pool line : ℕ) : Type 0 where
  steady : each actual_in (quarter_samples sharpest q) ≡ setpoints_in sharpest q
  whole : on_pool SO (pool_in d sharpest q) ≡ pool
  lines : each (on_line SO) (lines_in d sharpest q) ≡ replicate 32 line
  rest : rest_on SO (pool_in d sharpest q) ≡ line

computed-0 : Computed Positive 0 17 1
unfolding sharpest each outputs over_of kwh_of power_at plus max_z units_of up interval_of quarter_samples
    lines_in lines_by claim_by claim_from figures_at figures_of slice_of least_of upper_of pool_in pool_by rest_by
computed-0 = record { steady = refl; whole = refl; lines = refl; rest = refl }

computed-1 : Computed Negative 1 17 1
unfolding sharpest each outputs over_of kwh_of power_at plus max_z units_of up interval_of quarter_samples
    lines_in lines_by claim_by claim_from figures_at figures_of slice_of least_of upper_of pool_in pool_by rest_by
computed-1 = record { steady = refl; whole = refl; lines = refl; rest = refl }

computed-2 : Computed Positive 2 16 0
unfolding sharpest each outputs over_of kwh_of power_at plus max_z units_of up interval_of quarter_samples
    lines_in lines_by claim_by claim_from figures_at figures_of slice_of least_of upper_of pool_in pool_by rest_by
computed-2 = record { steady = refl; whole = refl; lines = refl; rest = refl }

computed-3 : Computed Negative 3 16 0
unfolding sharpest each outputs over_of kwh_of power_at plus max_z units_of up interval_of quarter_samples
    lines_in lines_by claim_by claim_from figures_at figures_of slice_of least_of upper_of pool_in pool_by rest_by
computed-3 = record { steady = refl; whole = refl; lines = refl; rest = refl }

module _ (d : Direction) (q pool line sum : ℕ) (k : Computed d q pool line) (total : sum_of (replicate 32 line) + line ≡ sum) (far : distance pool sum ≡ 16) (c : Column) where
  pool-is : on_pool c (pool_in d sharpest q) ≡ pool
  pool-is = steady-pool c d sharpest q k.steady ∙ k.whole

  lines_are : each (on_line c) (lines_in d sharpest q) ≡ replicate 32 line
  lines_are = steady-lines c d sharpest q k.steady ∙ k.lines

  rest-is : rest_on c (pool_in d sharpest q) ≡ line
  rest-is = steady-rest c d sharpest q k.steady ∙ k.rest

  added_is : added_up c (pool_in d sharpest q) (lines_in d sharpest q) ≡ sum
  added_is = rw (lines_are, rest-is) total

  shows : Shows c d q pool line sum
  shows = record { whole = pool-is; lines = lines_are; rest = rest-is; added = added_is; apart = rw (pool-is, lines_are, rest-is, total) far }

-- SHARP, in each of SO, IS and AK
pub sharp : Sharpest
unfolding over_of distance
sharp =
    record {
      accepted = sharp-accepted;
      positive_more = shows Positive 0 17 1 33 computed-0 refl refl;
      negative_more = shows Negative 1 17 1 33 computed-1 refl refl;
      positive_less = shows Positive 2 16 0 0 computed-2 refl refl;
      negative_less = shows Negative 3 16 0 0 computed-3 refl refl;
    }
