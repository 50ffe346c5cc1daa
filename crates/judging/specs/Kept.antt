-- What a checker keeps of the quarter hours until their shares come, and the shares as they come (docs/RULES.md, 'Checking shares').
use Rattle.std.specs.Prelude.{◌≡◌, ℕ, ◌+◌, ◌*◌, ◌-◌, cond, List, ℤ, set, replicate}
use Rattle.arithmetic.specs.Whole.{least_of}
use Rattle.series.specs.Scan.{each}
use Rattle.vocabulary.specs.declared.direction.Direction.{Direction}
use Rattle.vocabulary.specs.declared.direction.Direction.TheVariants.{Positive, Negative}
use Rattle.vocabulary.specs.Refusals.{Ruling, accepted}
use Rattle.quarter.specs.declared.sheet.Figures.{Figures}
use Rattle.quarter.specs.declared.sheet.Line.{Line}
use Rattle.quarter.specs.declared.sheet.Sheet.{Sheet}
use Rattle.quarter.specs.declared.sheet.Sheets.{Sheets}
use Rattle.judging.specs.declared.kept.Kept.{Kept as Lent}
use Rattle.judging.specs.declared.kept.Lists.{Lists}

-- a contract's gap by the figures of its K line: its cap is SO − UN, and the gap the smaller of MI and what the cap has above the smaller of cap and AK; - stops at 0
unfoldable pub cap_in : Figures → ℕ
cap_in figures = figures.setpoint.0 - figures.under_delivery.0

unfoldable pub gap_in : Figures → ℕ
gap_in figures = least_of (cap_in figures - least_of (cap_in figures) figures.acceptance.0) figures.shortfall.0

abbrev pub gap_on : Line → ℕ
gap_on line = gap_in line.figures

-- those of the lines of a sheet, 0 in places that have no contract
abbrev pub gaps_on : Sheet → List ℕ
gaps_on sheet = each gap_on sheet.lines

-- in a place where nothing was kept
unfoldable pub no_gaps : List ℕ
no_gaps = replicate 32 0

-- where a direction of a quarter hour is kept: P before N
abbrev pub row_of : ℕ → Direction → ℕ
row_of q Positive = q * 2
row_of q Negative = q * 2 + 1

-- the lists that are lent: the gaps and the surplus of each direction of each quarter hour, and the shares in the order of the U lines
pub record Kept : Type 0 where
  pub gaps : List (List ℕ)
  pub surpluses : List ℕ
  pub shares : List ℤ

abbrev pub keeping : List (List ℕ) → List ℕ → List ℤ → Kept
keeping gaps surpluses shares = record { gaps = gaps; surpluses = surpluses; shares = shares }

-- what stands in them
abbrev pub kept_in : Lent → Kept
kept_in lent = keeping lent.gaps.now lent.surpluses.now lent.shares.now

-- and in those of a reader
abbrev pub lists_in : Lists → Kept
lists_in lists = keeping lists.gaps.now lists.surpluses.now lists.shares.now

-- before a call and after it, the same lists are lent
pub record SameLists (before after : Lent) : Type 0 where
  pub gaps : before.gaps.ghost_name ≡ after.gaps.ghost_name
  pub surpluses : before.surpluses.ghost_name ≡ after.surpluses.ghost_name
  pub shares : before.shares.ghost_name ≡ after.shares.ghost_name

-- with a direction of a quarter hour, and with both
abbrev pub with_row : Kept → ℕ → Sheet → Kept
with_row kept row sheet = keeping (set kept.gaps row (gaps_on sheet)) (set kept.surpluses row sheet.pool.surplus.0) kept.shares

unfoldable pub with_sheets : Kept → ℕ → Sheets → Kept
with_sheets kept q sheets = with_row (with_row kept (row_of q Positive) sheets.positive) (row_of q Negative) sheets.negative

-- what is kept where taking gave this ruling
abbrev pub kept_of : Ruling → Kept → ℕ → Sheets → Kept
kept_of ruling kept q sheets = cond (accepted ruling) (with_sheets kept q sheets) kept

-- with the share of U line n, counted from 0
unfoldable pub with_share : Kept → ℕ → ℤ → Kept
with_share kept n kwh = keeping kept.gaps kept.surpluses (set kept.shares n kwh)
