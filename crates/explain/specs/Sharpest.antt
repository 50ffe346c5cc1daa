-- An input that shows that no smaller bound holds (`examples/sharpest.txt`): 32 contracts of 2 kW in each direction, and 66 kW for a quarter hour, then −66 kW for one.
-- The pool's 16.5 kWh are rounded up, and so is half a kWh on each line and of the rest. Then the same two quarter hours again, but for a last sample of 0 kW:
-- the pool's 16.4 kWh are rounded down, and so is not quite half a kWh on each line and of the rest.
use Rattle.std.specs.Prelude.{ℕ, zero, suc, ◌≡◌, ℤ, pos, neg_ℤ, replicate}
use mathlib.Core.List.{List, [], ◌∷◌, ◌++◌, flatten}
use Rattle.series.specs.Scan.{each}
use Rattle.vocabulary.specs.declared.direction.Direction.{Direction}
use Rattle.vocabulary.specs.declared.direction.Direction.TheVariants.{Positive, Negative}
use Rattle.vocabulary.specs.declared.header.Lot.TheVariants.{Blank}
use Rattle.vocabulary.specs.declared.sample.Sample.{Sample}
use Rattle.channel.specs.Start.{fresh}
use Rattle.meaning.specs.Given.{Deal, Given, lines_in, pool_in}
use Rattle.meaning.specs.Endings.{AcceptedInput}
use Rattle.explain.specs.Explained.{Column, on_line, on_pool, rest_on, added_up, difference}

-- ---- what is given

-- n numbers from k on
abbrev pub up_from : ℕ → ℕ → List ℕ
up_from zero k = []
up_from (suc n) k = k ∷ up_from n (suc k)

-- A to Z and a to f
abbrev pub letters : List ℕ
letters = up_from 26 65 ++ up_from 6 97

-- a contract of 2 kW, named by its direction and a letter
abbrev pub small_deal : ℕ → ℕ → Deal
small_deal direction letter = record { identifier = direction ∷ letter ∷ []; award = 2; price = pos 1000 }

abbrev pub steady : ℤ → Sample
steady kw = record { setpoint = kw; actual = kw }

unfoldable pub sharpest : Given
sharpest =
    record {
      header = record { date = record { year = 2017; month = 2; day = 20 }; interval = pos 4; lot = Blank; quarters = pos 4 };
      start = fresh;
      positives = each (small_deal 80) letters;
      negatives = each (small_deal 78) letters;
      samples =
          replicate 225 (steady (pos 66))
          ++ (replicate 225 (steady (neg_ℤ (pos 66)))
          ++ (replicate 224 (steady (pos 66))
          ++ (steady (pos 0)
          ∷ (replicate 224 (steady (neg_ℤ (pos 66)))
          ++ (steady (pos 0) ∷ [])))));
    }

-- ---- its text, a tab being 9 and each line ending in 10

-- D|2017-02-20|4|-|4
abbrev pub header_bytes : List ℕ
header_bytes = 68 ∷ 9 ∷ 50 ∷ 48 ∷ 49 ∷ 55 ∷ 45 ∷ 48 ∷ 50 ∷ 45 ∷ 50 ∷ 48 ∷ 9 ∷ 52 ∷ 9 ∷ 45 ∷ 9 ∷ 52 ∷ 10 ∷ []

-- C|P|PA|2|1000 and the like
abbrev pub deal_bytes : ℕ → ℕ → List ℕ
deal_bytes direction letter = 67 ∷ 9 ∷ direction ∷ 9 ∷ direction ∷ letter ∷ 9 ∷ 50 ∷ 9 ∷ 49 ∷ 48 ∷ 48 ∷ 48 ∷ 10 ∷ []

-- S|66|66, S|-66|-66, S|0|0
abbrev pub up_bytes : List ℕ
up_bytes = 83 ∷ 9 ∷ 54 ∷ 54 ∷ 9 ∷ 54 ∷ 54 ∷ 10 ∷ []

abbrev pub down_bytes : List ℕ
down_bytes = 83 ∷ 9 ∷ 45 ∷ 54 ∷ 54 ∷ 9 ∷ 45 ∷ 54 ∷ 54 ∷ 10 ∷ []

abbrev pub zero_bytes : List ℕ
zero_bytes = 83 ∷ 9 ∷ 48 ∷ 9 ∷ 48 ∷ 10 ∷ []

-- all lines, and E
unfoldable pub sharp_input : List ℕ
sharp_input =
    header_bytes
    ++ (flatten (each (deal_bytes 80) letters)
    ++ (flatten (each (deal_bytes 78) letters)
    ++ (flatten (replicate 225 up_bytes)
    ++ (flatten (replicate 225 down_bytes)
    ++ (flatten (replicate 224 up_bytes)
    ++ (zero_bytes
    ++ (flatten (replicate 224 down_bytes)
    ++ (zero_bytes
    ++ (69 ∷ 10 ∷ [])))))))))

-- ---- what it shows

-- in a column of a quarter hour: the pool's figure, that of each of 32 lines and the rest, their sum, and 16 kWh between the two
pub record Shows (c : Column) (d : Direction) (q pool line sum : ℕ) : Type 0 where
  pub whole : on_pool c (pool_in d sharpest q) ≡ pool
  pub lines : each (on_line c) (lines_in d sharpest q) ≡ replicate 32 line
  pub rest : rest_on c (pool_in d sharpest q) ≡ line
  pub added : added_up c (pool_in d sharpest q) (lines_in d sharpest q) ≡ sum
  pub apart : difference c (pool_in d sharpest q) (lines_in d sharpest q) ≡ 16

-- the input is accepted, and its sheet shows 33 against 17 and none against 16, in P and in N and in each column
pub record Sharpest : Type 0 where
  pub accepted : AcceptedInput sharp_input sharpest
  pub positive_more : (c : Column) → Shows c Positive 0 17 1 33
  pub negative_more : (c : Column) → Shows c Negative 1 17 1 33
  pub positive_less : (c : Column) → Shows c Positive 2 16 0 0
  pub negative_less : (c : Column) → Shows c Negative 3 16 0 0
