-- What is filled in: each has the values of the last good sample before it, and no more than 60 seconds in a row are.
-- Assumes nothing.
use Prim.Native.Nat.{ℕ, zero, suc, ◌+◌, ◌*◌, ◌≤◌}
use mathlib.Core.Path.{◌≡◌, ap, subst, ◌∙◌}
use mathlib.Core.List.{List, [], ◌∷◌, ◌++◌, append_assoc, append-nil}
use native.Mathlib.Omega.{arith}
use native.Mathlib.Nat.{mul-le-mul_right}
use lib.IntN.{ℤ}
use lib.ListN.{length}
use Rattle.series.specs.Scan.{each}
use Rattle.series.proofs.Each.{each-end}
use Rattle.vocabulary.specs.Refusals.{Ruling}
use Rattle.vocabulary.specs.declared.sample.Sample.{Sample}
use Rattle.vocabulary.specs.declared.recorded.Recorded.{Recorded}
use Rattle.mending.specs.declared.grid.Grid.{Grid}
use Rattle.mending.specs.Mending.{seconds_of, Item, stray, repeated, filled, kept, refused, filled_from}
use Rattle.mended.specs.Promises.{samples_in, unfilled, kept_in, sample_of, EndsIn}
use Rattle.mended.proofs.Standing.{Dropped, as_stray, as_repeated, Mends, no_line_lem, drops, begins, goes_on_lem}
use Rattle.mended.proofs.Stretch.{mends-kept}

-- ---- each after the samples that were kept before it

data Copies : List Sample → List Item → Type 0 where
  no_item : {done : List Sample} → Copies done []
  of_stray : {done : List Sample} {second : ℤ} {items : List Item} → Copies done items → Copies done (stray second ∷ items)
  of_repeated : {done : List Sample} {second : ℤ} {items : List Item} → Copies done items → Copies done (repeated second ∷ items)
  of_filled : {done : List Sample} {second : ℕ} {x : Sample} {items : List Item} → EndsIn x done → Copies done items → Copies done (filled second x ∷ items)
  of_kept : {done : List Sample} {x : Sample} {items : List Item} → Copies (done ++ (x ∷ [])) items → Copies done (kept x ∷ items)
  of_refused : {done : List Sample} {n : ℕ} {refusal : Ruling} {items : List Item} → Copies done items → Copies done (refused n refusal ∷ items)

copies-both : {done : List Sample} {a b : List Item} → Copies done a → Copies (done ++ kept_in a) b → Copies done (a ++ b)
unfolding samples_in unfilled
copies-both {done} no_item r = rw (append-nil done) at r
copies-both (of_stray l) r = of_stray (copies-both l r)
copies-both (of_repeated l) r = of_repeated (copies-both l r)
copies-both (of_filled e l) r = of_filled e (copies-both l r)
copies-both {done} {b = b} (of_kept {x = x} {items = items} l) r = of_kept (copies-both {b = b} l (rw (append_assoc done (x ∷ []) (kept_in items)) r))
copies-both (of_refused l) r = of_refused (copies-both l r)

-- so each, wherever it stands
copies_at : (done : List Sample) (before after : List Item) (second : ℕ) (x : Sample) → Copies done (before ++ (filled second x ∷ after)) → EndsIn x (done ++ kept_in before)
unfolding samples_in unfilled
copies_at done [] after second x (of_filled e l) = rw (append-nil done) e
copies_at done (stray s ∷ before) after second x (of_stray l) = copies_at done before after second x l
copies_at done (repeated s ∷ before) after second x (of_repeated l) = copies_at done before after second x l
copies_at done (filled s y ∷ before) after second x (of_filled e l) = copies_at done before after second x l
copies_at done (kept y ∷ before) after second x (of_kept l) = rw (append_assoc done (y ∷ []) (kept_in before)) at (copies_at (done ++ (y ∷ [])) before after second x l)
copies_at done (refused n r ∷ before) after second x (of_refused l) = copies_at done before after second x l

copies-filled : (t : Grid) {done : List Sample} {x : Sample} (n k : ℕ) → EndsIn x done → Copies done (filled_from t x n k)
unfolding filled_from
copies-filled t n zero e = no_item
copies-filled t n (suc k) e = of_filled e (copies-filled t (n + 1) k e)

copies-dropped : {done : List Sample} {row : Recorded} {item : Item} → Dropped row item → Copies done (item ∷ [])
copies-dropped as_stray = of_stray no_item
copies-dropped as_repeated = of_repeated no_item

-- the last good line's sample is the last that was kept
kept-last : {t : Grid} {rows good : List Recorded} {items : List Item} {n : ℕ} {g : Recorded} → Mends t rows good items n → EndsIn g good → EndsIn g.sample (kept_in items)
kept-last {g = g} m e =
    record { before = each sample_of e.before; is = mends-kept m ∙ ap (each sample_of) e.is ∙ each-end sample_of e.before g }

mends-copy : {t : Grid} {rows good : List Recorded} {items : List Item} {n : ℕ} → Mends t rows good items n → Copies [] items
mends-copy no_line_lem = no_item
mends-copy (drops d m) = copies-both (mends-copy m) (copies-dropped d)
mends-copy (begins row f r z m) = copies-both (mends-copy m) (of_kept no_item)
mends-copy {t} (goes_on_lem {n = n} row k i f w e s m) = copies-both (mends-copy m) (copies-both (copies-filled t n k (kept-last m i)) (of_kept no_item))

module _ {t : Grid} {rows good : List Recorded} {items : List Item} {n : ℕ} (m : Mends t rows good items n) where
  -- EACH HAS THE VALUES OF THE LAST GOOD ONE, with what is filled at the end
  pub filled-last : {g : Recorded} (k : ℕ) → EndsIn g good → (before after : List Item) (second : ℕ) (x : Sample)
      → items ++ filled_from t g.sample n k ≡ before ++ (filled second x ∷ after) → EndsIn x (kept_in before)
  filled-last k e before after second x same = copies_at [] before after second x (subst (Copies []) same (copies-both (mends-copy m) (copies-filled t n k (kept-last m e))))

  -- and before a refusal
  pub refused-last : (l : ℕ) (r : Ruling) (before after : List Item) (second : ℕ) (x : Sample)
      → items ++ (refused l r ∷ []) ≡ before ++ (filled second x ∷ after) → EndsIn x (kept_in before)
  refused-last l r before after second x same = copies_at [] before after second x (subst (Copies []) same (copies-both (mends-copy m) (of_refused no_item)))

-- ---- how many in a row, c of them before

data Rows (interval : ℕ) : ℕ → List Item → ℕ → Type 0 where
  no_item : {c : ℕ} → Rows interval c [] c
  of_stray : {c d : ℕ} {second : ℤ} {items : List Item} → Rows interval c items d → Rows interval c (stray second ∷ items) d
  of_repeated : {c d : ℕ} {second : ℤ} {items : List Item} → Rows interval c items d → Rows interval c (repeated second ∷ items) d
  of_filled : {c d : ℕ} {second : ℕ} {x : Sample} {items : List Item} → (c + 1) * interval ≤ 60 → Rows interval (c + 1) items d
      → Rows interval c (filled second x ∷ items) d
  of_kept : {c d : ℕ} {x : Sample} {items : List Item} → Rows interval 0 items d → Rows interval c (kept x ∷ items) d
  of_refused : {c d : ℕ} {n : ℕ} {refusal : Ruling} {items : List Item} → Rows interval c items d → Rows interval c (refused n refusal ∷ items) d

rows_both : {interval c d e : ℕ} {a b : List Item} → Rows interval c a d → Rows interval d b e → Rows interval c (a ++ b) e
rows_both no_item r = r
rows_both (of_stray l) r = of_stray (rows_both l r)
rows_both (of_repeated l) r = of_repeated (rows_both l r)
rows_both (of_filled h l) r = of_filled h (rows_both l r)
rows_both (of_kept l) r = of_kept (rows_both l r)
rows_both (of_refused l) r = of_refused (rows_both l r)

-- what starts behind some items: at any time it is no more than 60 seconds
record From (interval : ℕ) (items : List Item) (e : ℕ) : Type 0 where
  so_far : ℕ
  small : so_far * interval ≤ 60
  rows : Rows interval so_far items e

rows-from : {interval c e : ℕ} (a b : List Item) → c * interval ≤ 60 → Rows interval c (a ++ b) e → From interval b e
rows-from {c = c} [] b h r = record { so_far = c; small = h; rows = r }
rows-from (stray s ∷ a) b h (of_stray r) = rows-from a b h r
rows-from (repeated s ∷ a) b h (of_repeated r) = rows-from a b h r
rows-from {c = c} (filled s x ∷ a) b h (of_filled l r) = rows-from {c = c + 1} a b l r
rows-from (kept x ∷ a) b h (of_kept r) = rows-from {c = 0} a b (omega arith) r
rows-from (refused n x ∷ a) b h (of_refused r) = rows-from a b h r

-- items of which none is kept
rows_run : {interval c e : ℕ} (a b : List Item) → kept_in a ≡ [] → c * interval ≤ 60 → Rows interval c (a ++ b) e → (c + length (samples_in a)) * interval ≤ 60
unfolding samples_in unfilled
rows_run {interval} {c} [] b k h r = let e : c + 0 ≡ c = omega arith in rw e h
rows_run (stray s ∷ a) b k h (of_stray r) = rows_run a b k h r
rows_run (repeated s ∷ a) b k h (of_repeated r) = rows_run a b k h r
rows_run {c = c} (filled s x ∷ a) b k h (of_filled l r) = let e : c + 1 + length (samples_in a) ≡ c + suc (length (samples_in a)) = omega arith in rw e at (rows_run {c = c + 1} a b k l r)
rows_run (kept x ∷ a) b k h (of_kept r) = absurd (omega (arith, ap length k))
rows_run (refused n x ∷ a) b k h (of_refused r) = rows_run a b k h r

-- NO MORE THAN 60 SECONDS, wherever no good sample comes between
rows-between : {interval e : ℕ} (before between after : List Item) → Rows interval 0 (before ++ (between ++ after)) e → kept_in between ≡ [] → length (samples_in between) * interval ≤ 60
rows-between {interval} before between after r k =
    let f = rows-from before (between ++ after) (omega arith) r in
    let h = rows_run between after k f.small f.rows in
    let less : length (samples_in between) ≤ f.so_far + length (samples_in between) = omega arith in
    omega (arith, mul-le-mul_right interval less)

rows-filled : (t : Grid) (x : Sample) (n k c : ℕ) → (c + k) * seconds_of t ≤ 60 → Rows (seconds_of t) c (filled_from t x n k) (c + k)
unfolding filled_from
rows-filled t x n zero c h = let e : c + 0 ≡ c = omega arith in rw e no_item
rows-filled t x n (suc k) c h =
    let e : c + suc k ≡ c + 1 + k = omega arith in
    let less : c + 1 ≤ c + suc k = omega arith in
    let now : (c + 1) * seconds_of t ≤ 60 = omega (arith, mul-le-mul_right (seconds_of t) less) in
    rw e (of_filled now (rows-filled t x (n + 1) k (c + 1) (rw e at h)))

rows_dropped : {interval c : ℕ} {row : Recorded} {item : Item} → Dropped row item → Rows interval c (item ∷ []) c
rows_dropped as_stray = of_stray no_item
rows_dropped as_repeated = of_repeated no_item

-- between lines none waits
mends-rows : {t : Grid} {rows good : List Recorded} {items : List Item} {n : ℕ} → Mends t rows good items n → Rows (seconds_of t) 0 items 0
mends-rows no_line_lem = no_item
mends-rows (drops d m) = rows_both (mends-rows m) (rows_dropped d)
mends-rows (begins row f r z m) = rows_both (mends-rows m) (of_kept no_item)
mends-rows {t} (goes_on_lem {n = n} {g = g} row k i f w e s m) =
    let same : 0 + k ≡ k = omega arith in
    rows_both (mends-rows m) (rows_both (rows-filled t g.sample n k 0 (rw same s)) (of_kept no_item))

module _ {t : Grid} {rows good : List Recorded} {items : List Item} {n : ℕ} (m : Mends t rows good items n) where
  pub filled-few : (x : Sample) (k : ℕ) → k * seconds_of t ≤ 60 → (before between after : List Item) → items ++ filled_from t x n k ≡ before ++ (between ++ after)
      → kept_in between ≡ [] → length (samples_in between) * seconds_of t ≤ 60
  filled-few x k h before between after same none =
      let e : 0 + k ≡ k = omega arith in
      let r = rows_both (mends-rows m) (rows-filled t x n k 0 (rw e h)) in
      rows-between before between after (subst (λ (l : List Item). Rows (seconds_of t) 0 l (0 + k)) same r) none

  pub refused-few : (l : ℕ) (r : Ruling) (before between after : List Item) → items ++ (refused l r ∷ []) ≡ before ++ (between ++ after) → kept_in between ≡ []
      → length (samples_in between) * seconds_of t ≤ 60
  refused-few l r before between after same none =
      let one = rows_both (mends-rows m) (of_refused no_item) in
      rows-between before between after (subst (λ (x : List Item). Rows (seconds_of t) 0 x 0) same one) none
