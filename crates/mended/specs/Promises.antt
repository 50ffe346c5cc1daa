-- The promises over a recording (docs/RULES.md, 'Mending a recording'), over the list of what is printed for it.
use Rattle.std.specs.Prelude.{ℕ, zero, suc, ◌+◌, ◌*◌, ◌≤◌, ◌≡◌, List, [], ◌∷◌, ◌++◌, ℤ, length}
use Rattle.arithmetic.specs.Whole.{up}
use Rattle.series.specs.Scan.{each}
use Rattle.vocabulary.specs.Refusals.{Ruling}
use Rattle.vocabulary.specs.declared.header.Header.{Header}
use Rattle.vocabulary.specs.declared.sample.Sample.{Sample}
use Rattle.vocabulary.specs.declared.recorded.Recorded.{Recorded}
use Rattle.vocabulary.specs.Interval.{windows_of}
use Rattle.mending.specs.Mending.{grid_of, seconds_of, good_of, Item, stray, repeated, filled, kept, refused, recording}
use Rattle.mended.specs.Endings.{ending_of, refusal_in}

-- ---- the S lines

-- all of them, in order
unfoldable pub samples_in : List Item → List Sample
samples_in [] = []
samples_in (stray second ∷ items) = samples_in items
samples_in (repeated second ∷ items) = samples_in items
samples_in (filled second x ∷ items) = x ∷ samples_in items
samples_in (kept x ∷ items) = x ∷ samples_in items
samples_in (refused n refusal ∷ items) = samples_in items

-- "leaving out the samples marked M"
unfoldable pub unfilled : List Item → List Item
unfilled [] = []
unfilled (stray second ∷ items) = stray second ∷ unfilled items
unfilled (repeated second ∷ items) = repeated second ∷ unfilled items
unfilled (filled second x ∷ items) = unfilled items
unfilled (kept x ∷ items) = kept x ∷ unfilled items
unfilled (refused n refusal ∷ items) = refused n refusal ∷ unfilled items

abbrev pub kept_in : List Item → List Sample
kept_in items = samples_in (unfilled items)

abbrev pub sample_of : Recorded → Sample
sample_of row = row.sample

-- ---- each second once and in order

-- an S line and its second
pub record Timed : Type 0 where
  pub second : ℕ
  pub sample : Sample

abbrev pub time_of : Timed → ℕ
time_of x = x.second

-- the S lines with their seconds: that of M stands in its X line, that of a good sample in its G line, the good lines being taken in order, all of them
pub data Times : List Item → List Recorded → List Timed → Type 0 where
  no_item : Times [] [] []
  of_stray : {second : ℤ} {items : List Item} {good : List Recorded} {lines : List Timed} → Times items good lines → Times (stray second ∷ items) good lines
  of_repeated : {second : ℤ} {items : List Item} {good : List Recorded} {lines : List Timed} → Times items good lines → Times (repeated second ∷ items) good lines
  of_filled : {second : ℕ} {x : Sample} {items : List Item} {good : List Recorded} {lines : List Timed} → Times items good lines
      → Times (filled second x ∷ items) good (record { second = second; sample = x } ∷ lines)
  of_kept : (row : Recorded) {items : List Item} {good : List Recorded} {lines : List Timed} → Times items good lines
      → Times (kept row.sample ∷ items) (row ∷ good) (record { second = up row.second; sample = row.sample } ∷ lines)
  of_refused : {n : ℕ} {refusal : Ruling} {items : List Item} {good : List Recorded} {lines : List Timed} → Times items good lines → Times (refused n refusal ∷ items) good lines

-- so many seconds from place k on: k × interval, (k + 1) × interval, ..
unfoldable pub seconds : ℕ → ℕ → ℕ → List ℕ
seconds interval k zero = []
seconds interval k (suc n) = k * interval ∷ seconds interval (k + 1) n

-- AN ACCEPTED RECORDING GIVES THE WHOLE STRETCH: as many S lines as the quarter hours have samples, for the seconds 0, interval, 2 × interval, ..
pub record WholeStretch (input : List ℕ) (h : Header) (rows : List Recorded) : Type 0 where
  pub number : length (samples_in (recording input)) ≡ up h.quarters * (windows_of (grid_of h).interval).samples
  pub lines : List Timed
  pub times : Times (recording input) (good_of (grid_of h) rows) lines
  pub in_order : each time_of lines ≡ seconds (seconds_of (grid_of h)) 0 (up h.quarters * (windows_of (grid_of h).interval).samples)

-- ---- each M

-- the last of some
pub record EndsIn {X : Type 0} (x : X) (xs : List X) : Type 0 where
  pub before : List X
  pub is : xs ≡ before ++ (x ∷ [])

-- EACH M SAMPLE EQUALS THE LAST GOOD ONE before it
abbrev pub FilledIsLastGood : List ℕ → Type 0
FilledIsLastGood input =
    (before after : List Item) (second : ℕ) (x : Sample) → recording input ≡ before ++ (filled second x ∷ after) → EndsIn x (kept_in before)

-- NO MORE THAN 60 SECONDS IN A ROW ARE FILLED: the S lines of a stretch that has no good sample are all marked M
abbrev pub FilledAtMost60 : List ℕ → Header → Type 0
FilledAtMost60 input h =
    (before between after : List Item) → recording input ≡ before ++ (between ++ after) → kept_in between ≡ [] → length (samples_in between) * seconds_of (grid_of h) ≤ 60

-- ---- each line

-- X with O or T, or an S line
pub data AccountedBy (row : Recorded) : Item → Type 0 where
  as_stray : AccountedBy row (stray row.second)
  as_repeated : AccountedBy row (repeated row.second)
  as_kept : AccountedBy row (kept row.sample)

-- one for each, in order
pub data OneForEach {X Y : Type 0} (P : X → Y → Type 0) : List X → List Y → Type 0 where
  no_more : OneForEach P [] []
  and_one : {x : X} {y : Y} {xs : List X} {ys : List Y} → P x y → OneForEach P xs ys → OneForEach P (x ∷ xs) (y ∷ ys)

-- EACH LINE IS ACCOUNTED FOR: each G line before the end by exactly one of stray, repeated, kept; the line that is refused, by R; nothing else is printed but what is marked M
pub record EachLineAccounted (input : List ℕ) (rows : List Recorded) : Type 0 where
  pub items : List Item
  pub each_row : OneForEach AccountedBy rows items
  pub all : unfilled (recording input) ≡ items ++ refusal_in (ending_of input)
