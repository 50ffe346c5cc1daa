-- The S lines of lines that were mended: the good ones are kept in order, and with those filled in there is one for each second.
-- Assumes nothing.
use Prim.Native.Nat.{ℕ, zero, suc, ◌+◌, ◌*◌}
use mathlib.Core.Path.{◌≡◌, refl, sym, ap, ap₂, ◌∙◌}
use mathlib.Core.List.{List, [], ◌∷◌, ◌++◌, append-nil}
use native.Mathlib.Omega.{arith}
use native.Mathlib.Nat.{zero-add}
use lib.ListN.{length}
use Rattle.arithmetic.specs.Whole.{up}
use Rattle.series.specs.Scan.{each}
use Rattle.series.proofs.Each.{each-join, each-end}
use Rattle.series.proofs.Scanned.{each-length}
use Rattle.vocabulary.specs.Refusals.{Ruling}
use Rattle.vocabulary.specs.declared.sample.Sample.{Sample}
use Rattle.vocabulary.specs.declared.recorded.Recorded.{Recorded}
use Rattle.mending.specs.declared.grid.Grid.{Grid}
use Rattle.mending.specs.Mending.{seconds_of, Item, stray, repeated, filled, kept, refused, filled_from}
use Rattle.mended.specs.Promises.{samples_in, unfilled, kept_in, sample_of, Timed, time_of, Times, no_item, of_stray, of_repeated, of_filled, of_kept, of_refused, seconds}
use Rattle.mended.proofs.Standing.{Dropped, as_stray, as_repeated, Mends, no_line_lem, drops, begins, goes_on_lem}

-- ---- the kept ones

pub kept-both : (a b : List Item) → kept_in (a ++ b) ≡ kept_in a ++ kept_in b
unfolding samples_in unfilled
kept-both [] b = refl
kept-both (stray second ∷ a) b = kept-both a b
kept-both (repeated second ∷ a) b = kept-both a b
kept-both (filled second x ∷ a) b = kept-both a b
kept-both (kept x ∷ a) b = ap (λ (l : List Sample). x ∷ l) (kept-both a b)
kept-both (refused n refusal ∷ a) b = kept-both a b

pub none_kept : (t : Grid) (x : Sample) (n k : ℕ) → kept_in (filled_from t x n k) ≡ []
unfolding samples_in unfilled filled_from
none_kept t x n zero = refl
none_kept t x n (suc k) = none_kept t x (n + 1) k

dropped-not-kept : {row : Recorded} {item : Item} → Dropped row item → kept_in (item ∷ []) ≡ []
unfolding samples_in unfilled
dropped-not-kept as_stray = refl
dropped-not-kept as_repeated = refl

-- some filled ones, and then one that is kept
filled-and-kept : (t : Grid) (x y : Sample) (n k : ℕ) → kept_in (filled_from t x n k ++ (kept y ∷ [])) ≡ y ∷ []
unfolding samples_in unfilled
filled-and-kept t x y n k = kept-both (filled_from t x n k) (kept y ∷ []) ∙ ap (λ (l : List Sample). l ++ (y ∷ [])) (none_kept t x n k)

-- THEY ARE THE GOOD LINES
pub mends-kept : {t : Grid} {rows good : List Recorded} {items : List Item} {n : ℕ} → Mends t rows good items n → kept_in items ≡ each sample_of good
unfolding samples_in unfilled each
mends-kept no_line_lem = refl
mends-kept (drops {items = items} {item = item} d m) =
    kept-both items (item ∷ []) ∙ ap₂ ◌++◌ (mends-kept m) (dropped-not-kept d) ∙ append-nil _
mends-kept (begins {items = items} row f r z m) = kept-both items (kept row.sample ∷ []) ∙ ap (λ (l : List Sample). l ++ (row.sample ∷ [])) (mends-kept m)
mends-kept {t} (goes_on_lem {good = good} {items = items} {n = n} {g = g} row k i f w e s m) =
    kept-both items (filled_from t g.sample n k ++ (kept row.sample ∷ []))
    ∙ ap₂ ◌++◌ (mends-kept m) (filled-and-kept t g.sample row.sample n k)
    ∙ sym (each-end sample_of good row)

-- ---- so many seconds, and so many after them

seconds-both : (interval from n k : ℕ) → seconds interval from n ++ seconds interval (from + n) k ≡ seconds interval from (n + k)
unfolding seconds
seconds-both interval from zero k =
    let e : from + 0 ≡ from = omega arith in
    let f : 0 + k ≡ k = omega arith in
    rw (e, f)
seconds-both interval from (suc n) k =
    let e : from + suc n ≡ from + 1 + n = omega arith in
    let f : suc n + k ≡ suc (n + k) = omega arith in
    rw (e, f) (ap (λ (l : List ℕ). from * interval ∷ l) (seconds-both interval (from + 1) n k))

pub seconds-length : (interval from n : ℕ) → length (seconds interval from n) ≡ n
unfolding seconds
seconds-length interval from zero = refl
seconds-length interval from (suc n) = ap suc (seconds-length interval (from + 1) n)

-- items that have the S lines of n places, from one place on
pub record Covers (t : Grid) (items : List Item) (good : List Recorded) (from n : ℕ) : Type 0 where
  pub lines : List Timed
  pub times : Times items good lines
  pub in_order : each time_of lines ≡ seconds (seconds_of t) from n

times-both : {a b : List Item} {g h : List Recorded} {xs ys : List Timed} → Times a g xs → Times b h ys → Times (a ++ b) (g ++ h) (xs ++ ys)
times-both no_item r = r
times-both (of_stray l) r = of_stray (times-both l r)
times-both (of_repeated l) r = of_repeated (times-both l r)
times-both (of_filled l) r = of_filled (times-both l r)
times-both (of_kept row l) r = of_kept row (times-both l r)
times-both (of_refused l) r = of_refused (times-both l r)

pub covers-both : {t : Grid} {a b : List Item} {g h : List Recorded} {from n k : ℕ} → Covers t a g from n → Covers t b h (from + n) k → Covers t (a ++ b) (g ++ h) from (n + k)
covers-both {t} {from = from} {n = n} {k = k} p q =
    record {
      lines = p.lines ++ q.lines;
      times = times-both p.times q.times;
      in_order = each-join time_of p.lines q.lines ∙ ap₂ ◌++◌ p.in_order q.in_order ∙ seconds-both (seconds_of t) from n k;
    }

pub covers-filled : (t : Grid) (x : Sample) (from n : ℕ) → Covers t (filled_from t x from n) [] from n
unfolding filled_from seconds each
covers-filled t x from zero = record { lines = []; times = no_item; in_order = refl }
covers-filled t x from (suc n) =
    let r = covers-filled t x (from + 1) n in
    record {
      lines = record { second = from * seconds_of t; sample = x } ∷ r.lines;
      times = of_filled r.times;
      in_order = ap (λ (l : List ℕ). from * seconds_of t ∷ l) r.in_order;
    }

covers-dropped : (t : Grid) {row : Recorded} {item : Item} (from : ℕ) → Dropped row item → Covers t (item ∷ []) [] from 0
unfolding seconds each
covers-dropped t from as_stray = record { lines = []; times = of_stray no_item; in_order = refl }
covers-dropped t from as_repeated = record { lines = []; times = of_repeated no_item; in_order = refl }

covers_kept : (t : Grid) (row : Recorded) (from : ℕ) → up row.second ≡ from * seconds_of t → Covers t (kept row.sample ∷ []) (row ∷ []) from 1
unfolding seconds each
covers_kept t row from e =
    record { lines = record { second = up row.second; sample = row.sample } ∷ []; times = of_kept row no_item; in_order = ap (λ (s : ℕ). s ∷ []) e }

pub covers-refused : (t : Grid) (from m : ℕ) (r : Ruling) → Covers t (refused m r ∷ []) [] from 0
unfolding seconds each
covers-refused t from m r = record { lines = []; times = of_refused no_item; in_order = refl }

-- after those from place 0 on
pub covers-on : {t : Grid} {a b : List Item} {g h : List Recorded} {n k : ℕ} → Covers t a g 0 n → Covers t b h n k → Covers t (a ++ b) (g ++ h) 0 (n + k)
covers-on {n = n} p q = covers-both p (rw (zero-add n) q)

-- ONE FOR EACH PLACE below the next
pub mends-cover : {t : Grid} {rows good : List Recorded} {items : List Item} {n : ℕ} → Mends t rows good items n → Covers t items good 0 n
unfolding seconds each
mends-cover no_line_lem = record { lines = []; times = no_item; in_order = refl }
mends-cover {t} (drops {good = good} {n = n} d m) =
    let same : n + 0 ≡ n = omega arith in
    rw (append-nil good, same) at (covers-on (mends-cover m) (covers-dropped t n d))
mends-cover {t} (begins row f r z m) =
    let at_zero : up row.second ≡ 0 * seconds_of t = omega arith in
    covers-on (mends-cover m) (covers_kept t row 0 at_zero)
mends-cover {t} (goes_on_lem {n = n} {g = g} row k i f w e s m) =
    let sum : n + (k + 1) ≡ n + k + 1 = omega arith in
    rw sum at (covers-on (mends-cover m) (covers-both (covers-filled t g.sample n k) (covers_kept t row (n + k) e)))

-- ---- how many they are

times-number : {items : List Item} {good : List Recorded} {lines : List Timed} → Times items good lines → length (samples_in items) ≡ length lines
unfolding samples_in
times-number no_item = refl
times-number (of_stray l) = times-number l
times-number (of_repeated l) = times-number l
times-number (of_filled l) = ap suc (times-number l)
times-number (of_kept row l) = ap suc (times-number l)
times-number (of_refused l) = times-number l

pub covers-number : {t : Grid} {items : List Item} {good : List Recorded} {from n : ℕ} → Covers t items good from n → length (samples_in items) ≡ n
covers-number {t} {from = from} {n = n} c =
    times-number c.times ∙ sym (each-length time_of c.lines) ∙ ap length c.in_order ∙ seconds-length (seconds_of t) from n
