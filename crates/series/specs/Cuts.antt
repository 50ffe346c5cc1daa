-- A series cut at the limits of a direction ('Slices'): a slice for each contract, and the rest above the last limit.
use Rattle.std.specs.Prelude.{ℕ, ◌-◌, ◌%◌, ◌^◌, List, ◌∷◌, ◌++◌, length, drop, replicate, slice_index}
use Rattle.series.specs.Sums.{over_of}
use Rattle.series.specs.Slices.{slice_of, sliced_of}
use Rattle.series.specs.Scan.{outputs, each}
use Rattle.series.specs.declared.cutting.Pieces.{Pieces}

-- ---- the limits around a slice

-- what a contract is cut out by: the lower limit is the sum of the awards before it, so the upper one of the contract before
pub record Cut : Type 0 where
  pub low : ℕ
  pub high : ℕ

abbrev pub cut : ℕ → ℕ → Cut
cut low high = record { low = low; high = high }

-- the upper limit of a slice is the lower one of the next; the first begins at 0
abbrev pub highest : ℕ → ℕ → ℕ
highest low high = high

abbrev pub cuts_of : List ℕ → List Cut
cuts_of = outputs highest cut 0

-- the lower limit of the slice at a place; past the slices, the last limit
abbrev pub low_at : List ℕ → ℕ → ℕ
low_at limits k = slice_index (0 ∷ limits) k

-- the last limit, 0 where there is none
abbrev pub last_of : List ℕ → ℕ
last_of limits = low_at limits (length limits)

-- the slice at a place
abbrev pub cut_at : List ℕ → ℕ → Cut
cut_at limits k = cut (low_at limits k) (slice_index limits k)

-- ---- the pieces of a power, and of a series

-- the slice of a power
abbrev pub slice_in : ℕ → Cut → ℕ
slice_in power c = slice_of c.low c.high power

-- the sum of a slice
abbrev pub sliced_in : List ℕ → Cut → ℕ
sliced_in powers c = sliced_of c.low c.high powers

-- the sum of what lies above a limit
abbrev pub above_of : ℕ → List ℕ → ℕ
above_of low = over_of (λ v. v - low)

-- the sum of a slice as 64 bits hold it: where the sum of the powers fits, it is the sum itself (proofs/Whole)
abbrev pub sum_held : List ℕ → Cut → ℕ
sum_held powers c = sliced_in powers c % 2 ^ 64

-- 32 sums of nothing
unfoldable pub no_sums : List ℕ
no_sums = replicate 32 0

-- the sum of each slice, and of the rest above the last limit
unfoldable pub pieces_of : List ℕ → List ℕ → Pieces
pieces_of limits powers =
    record {
      sums = each (sum_held powers) (cuts_of limits) ++ drop (length limits) no_sums;
      rest = above_of (last_of limits) powers % 2 ^ 64;
    }
