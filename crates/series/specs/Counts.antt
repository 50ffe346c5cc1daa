-- How the code comes to the pieces of a series: by counting which powers end between which limits. What the pieces are stands in Cuts.
use Rattle.std.specs.Prelude.{◌≡◌, ℕ, suc, ◌+◌, ◌-◌, ◌*◌, ◌%◌, ◌^◌, ◌<◌, ◌≤◌, List, [], ◌∷◌, length, take, replicate, slice_index, slice_index_or}
use Rattle.series.specs.Sums.{sum_of}
use Rattle.series.specs.Cuts.{low_at, last_of, cut_at, sliced_in, above_of}

-- the counts of 33 places before anything is counted
unfoldable pub no_places : List ℕ
no_places = replicate 33 0

-- the limit above a place; past the slices, the most that 64 bits hold
abbrev pub high_at : List ℕ → ℕ → ℕ
high_at limits k = slice_index_or limits k 18446744073709551615

-- a place whose upper limit a power does not pass
pub record Reaches (limits : List ℕ) (power place : ℕ) : Type 0 where
  pub within : place ≤ length limits
  pub high : power ≤ high_at limits place

-- a power ends at a place: it is no less than the limit below and no more than the limit above
pub record Placed (limits : List ℕ) (power place : ℕ) : Type 0 where
  pub within : place ≤ length limits
  pub low : low_at limits place ≤ power
  pub high : power ≤ high_at limits place

-- powers between two limits
pub data Between (low high : ℕ) : List ℕ → Type 0 where
  none : Between low high []
  more : {v : ℕ} {l : List ℕ} → low ≤ v → v ≤ high → Between low high l → Between low high (v ∷ l)

-- the first i powers of a series lie between two limits, and what they have above the lower one is summed
pub record Ran (low high : ℕ) (l : List ℕ) (sum i : ℕ) : Type 0 where
  pub within : i ≤ length l
  pub held : Between low high (take i l)
  pub summed : sum ≡ above_of low (take i l) % 2 ^ 64

-- a run at the start of a series, and the place where its powers end
pub record Stepped (limits l : List ℕ) (place count sum : ℕ) : Type 0 where
  pub within : place ≤ length limits
  pub some : 0 < count
  pub ran : Ran (low_at limits place) (high_at limits place) l sum count

-- two numbers that 64 bits hold alike
abbrev pub Same : ℕ → ℕ → Type 0
Same a b = a % 2 ^ 64 ≡ b % 2 ^ 64

-- how wide a slice is
abbrev pub width_at : List ℕ → ℕ → ℕ
width_at limits k = slice_index limits k - low_at limits k

-- the first `at` powers are counted by place: a slice is what its own powers reach into it, and its width for each that ends above it
pub record Counted (limits powers counts parts : List ℕ) (at : ℕ) : Type 0 where
  pub within : at ≤ length powers
  pub places : length counts ≡ 33
  pub parted : length parts ≡ 33
  pub counted : sum_of counts ≤ at
  pub fitting : (k : ℕ) → slice_index parts k < 2 ^ 64
  pub slices : (k : ℕ) → k < length limits
      → Same (slice_index parts k + (at - sum_of (take (suc k) counts)) * width_at limits k) (sliced_in (take at powers) (cut_at limits k))
  pub rest : Same (slice_index parts (length limits)) (above_of (last_of limits) (take at powers))

-- limits that rise, and are small enough for products with the length of a series
pub record Orderly (limits : List ℕ) : Type 0 where
  pub few : length limits ≤ 32
  pub rising : (i j : ℕ) → i ≤ j → j < length limits → slice_index limits i ≤ slice_index limits j
  pub small : (i : ℕ) → i < length limits → slice_index limits i ≤ 2 ^ 48
