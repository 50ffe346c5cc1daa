-- What balancing adds up (docs/RULES.md, 'Why lines and pool line can differ, and by how much'): a column of a quarter hour's K lines and the rest, beside the pool's figure.
use Rattle.std.specs.Prelude.{ℕ, ◌+◌, ◌*◌, ◌-◌, ◌≤◌, ◌<◌, List, length}
use Rattle.series.specs.Scan.{each}
use Rattle.series.specs.Sums.{sum_of}
use Rattle.quarter.specs.declared.sheet.Figures.{Figures}
use Rattle.quarter.specs.declared.sheet.Pool.{Pool}

-- the columns that are cut at the contracts' limits
pub data Column : Type 0 where
  SO : Column
  IS : Column
  AK : Column

-- a column's figure on a K line, on the Q line, and its rest there
abbrev pub on_line : Column → Figures → ℕ
on_line SO l = l.setpoint.0
on_line IS l = l.actual.0
on_line AK l = l.acceptance.0

abbrev pub on_pool : Column → Pool → ℕ
on_pool SO p = p.setpoint.0
on_pool IS p = p.actual.0
on_pool AK p = p.acceptance.0

abbrev pub rest_on : Column → Pool → ℕ
rest_on SO p = p.rest.setpoint.0
rest_on IS p = p.rest.actual.0
rest_on AK p = p.rest.acceptance.0

-- the lines and the rest
abbrev pub added_up : Column → Pool → List Figures → ℕ
added_up c pool lines = sum_of (each (on_line c) lines) + rest_on c pool

-- what one number has above the other, whichever is the larger
unfoldable pub distance : ℕ → ℕ → ℕ
distance a b = (a - b) + (b - a)

abbrev pub difference : Column → Pool → List Figures → ℕ
difference c pool lines = distance (on_pool c pool) (added_up c pool lines)

-- the difference is at most half a kWh for each line, half for the rest and half for the pool; and never all of that, so that with 32 contracts
-- it is 16 kWh at most
pub record Explained (c : Column) (pool : Pool) (lines : List Figures) : Type 0 where
  pub near : difference c pool lines * 2 ≤ length lines + 2
  pub less : difference c pool lines * 2 < length lines + 2
  pub most : difference c pool lines ≤ 16
