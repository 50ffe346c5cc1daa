-- THE PROMISES OVER RECORDINGS, by name.
-- Assumes nothing.
use Prim.Native.Nat.{ℕ, ◌*◌}
use mathlib.Core.Path.{◌≡◌, refl, sym, ap, subst, ◌∙◌}
use mathlib.Core.Bool.{true}
use mathlib.Core.List.{List, [], ◌∷◌, ◌++◌, append-nil}
use Rattle.arithmetic.specs.Whole.{up}
use Rattle.series.specs.Scan.{each}
use Rattle.vocabulary.specs.Interval.{windows_of}
use Rattle.vocabulary.specs.Grounds.{ranked}
use Rattle.std.specs.Prelude.{Err}
use Rattle.vocabulary.specs.Refusals.{Ruling}
use Rattle.vocabulary.specs.declared.refusal.Refusal.TheVariants.{NoEnd}
use Rattle.vocabulary.specs.declared.header.Header.{Header}
use Rattle.vocabulary.specs.declared.sample.Sample.{Sample}
use Rattle.vocabulary.specs.declared.recorded.Recorded.{Recorded}
use Rattle.settlement.specs.Calls.{header_grounds}
use Rattle.reading.specs.declared.entry.Entry.{Entry}
use Rattle.reading.specs.declared.entry.Entry.TheVariants as E
use Rattle.mending.specs.declared.grid.Grid.{Grid}
use Rattle.mending.specs.Mending.{SoFar, nothing, these, over, grid_of, good_of, last_of, next_place, recorded_grounds, end_grounds, grounds}
use Rattle.mending.specs.Mending.{Item, refused, filled_from, recording}
use Rattle.mended.specs.Endings.{items_of, Ending, whole, refused_at, short, ending_of, given_in, refusal_in, AcceptedRecording, EndsSo}
use Rattle.mended.specs.Promises.{samples_in, kept_in, sample_of, WholeStretch, FilledIsLastGood, FilledAtMost60, unfilled, EachLineAccounted}
use Rattle.mended.proofs.Endings.{recording-ends}
use Rattle.mended.proofs.Standing.{Mends, Closes, accepted-mend, accepted-close}
use Rattle.mended.proofs.Stretch.{kept-both, none_kept, mends-kept, Covers, covers-on, covers-filled, covers-number, mends-cover}
use Rattle.mended.proofs.Filled.{filled-last, refused-last, filled-few, refused-few}
use Rattle.mended.proofs.Accounted.{unfilled-both, none-unfilled, mends-account}

-- ---- the grounds of every line stand in the order of the listing

pub entry-ranked : (so : SoFar) (entry : Entry) → ranked (grounds so entry) ≡ true
unfolding grounds header_grounds recorded_grounds end_grounds
entry-ranked nothing (E.Header h) = refl
entry-ranked nothing (E.Recorded row) = refl
entry-ranked nothing E.End = refl
entry-ranked nothing E.Malformed = refl
entry-ranked (these h rows) (E.Header k) = refl
entry-ranked (these h rows) (E.Recorded row) = refl
entry-ranked (these h rows) E.End = refl
entry-ranked (these h rows) E.Malformed = refl
entry-ranked over entry = refl

-- ---- all that is printed: what the lines say, and then what is filled at E, or the refusal

data Tail (t : Grid) (rows good : List Recorded) (n : ℕ) : List Item → List Item → Type 0 where
  filling : (c : Closes t rows good n) → Tail t rows good n (filled_from t c.g.sample n c.missing) []
  refusing : (l : ℕ) (r : Ruling) → Tail t rows good n (refused l r ∷ []) (refused l r ∷ [])

record Told (input : List ℕ) (h : Header) (rows : List Recorded) (refusal : List Item) : Type 0 where
  next : ℕ
  tail : List Item
  mends : Mends (grid_of h) rows (good_of (grid_of h) rows) (items_of (grid_of h) rows) next
  ends : Tail (grid_of h) rows (good_of (grid_of h) rows) next tail refusal
  all : recording input ≡ items_of (grid_of h) rows ++ tail

abbrev ToldSo : List ℕ → SoFar → List Item → Type 0
ToldSo input nothing refusal = Unit
ToldSo input (these h rows) refusal = Told input h rows refusal
ToldSo input over refusal = Unit

told-accepted : {input : List ℕ} {h : Header} {rows : List Recorded} → AcceptedRecording input h rows → Told input h rows []
told-accepted {h = h} {rows = rows} a =
    let t = grid_of h in
    let c = accepted-close a.accepts a.accepted_end in
    record {
      next = next_place t (last_of (good_of t rows));
      tail = filled_from t c.g.sample (next_place t (last_of (good_of t rows))) c.missing;
      mends = accepted-mend a.accepts;
      ends = filling c;
      all = a.items ∙ ap (λ (l : List Item). items_of t rows ++ l) c.filled;
    }

told-by : (input : List ℕ) (e : Ending) → EndsSo input e → ToldSo input (given_in e) (refusal_in e)
told-by input (whole nothing) r = tt
told-by input (whole (these h rows)) r = told-accepted r
told-by input (whole over) r = tt
told-by input (refused_at nothing n refusal) r = tt
told-by input (refused_at (these h rows) n refusal) r =
    record { next = next_place (grid_of h) (last_of (good_of (grid_of h) rows)); tail = refused n refusal ∷ []; mends = accepted-mend r.accepts; ends = refusing n refusal; all = r.items }
told-by input (refused_at over n refusal) r = tt
told-by input (short nothing n) r = tt
told-by input (short (these h rows) n) r =
    record { next = next_place (grid_of h) (last_of (good_of (grid_of h) rows)); tail = refused n (Err NoEnd) ∷ []; mends = accepted-mend r.accepts; ends = refusing n (Err NoEnd); all = r.items }
told-by input (short over n) r = tt

-- ---- a recording with a header, however it ends

module _ (input : List ℕ) (h : Header) (rows : List Recorded) (given : given_in (ending_of input) ≡ these h rows) where
  told : Told input h rows (refusal_in (ending_of input))
  told = subst (λ (so : SoFar). ToldSo input so (refusal_in (ending_of input))) given (told-by input (ending_of input) (recording-ends input))

  abbrev t : Grid
  t = grid_of h

  abbrev good : List Recorded
  good = good_of t rows

  tail-not-kept : {n : ℕ} {tail refusal : List Item} → Tail t rows good n tail refusal → kept_in tail ≡ []
  unfolding samples_in unfilled
  tail-not-kept {n} (filling c) = none_kept t c.g.sample n c.missing
  tail-not-kept (refusing l r) = refl

  -- LEAVING OUT THE SAMPLES MARKED M, the S lines are exactly the good lines, in order
  pub kept-are-good : kept_in (recording input) ≡ each sample_of good
  kept-are-good =
      ap kept_in told.all
      ∙ kept-both (items_of t rows) told.tail
      ∙ ap (λ (l : List Sample). kept_in (items_of t rows) ++ l) (tail-not-kept told.ends)
      ∙ append-nil (kept_in (items_of t rows))
      ∙ mends-kept told.mends

  last-good-by : {n : ℕ} {tail refusal : List Item} → Mends t rows good (items_of t rows) n → Tail t rows good n tail refusal
      → recording input ≡ items_of t rows ++ tail → FilledIsLastGood input
  last-good-by m (filling c) e before after second x same = filled-last m c.missing c.lasts before after second x (sym e ∙ same)
  last-good-by m (refusing l r) e before after second x same = refused-last m l r before after second x (sym e ∙ same)

  -- EACH M SAMPLE EQUALS THE LAST GOOD ONE before it
  pub filled-is-last-good : FilledIsLastGood input
  filled-is-last-good = last-good-by told.mends told.ends told.all

  few-by : {n : ℕ} {tail refusal : List Item} → Mends t rows good (items_of t rows) n → Tail t rows good n tail refusal → recording input ≡ items_of t rows ++ tail
      → FilledAtMost60 input h
  few-by m (filling c) e before between after same none = filled-few m c.g.sample c.missing c.short before between after (sym e ∙ same) none
  few-by m (refusing l r) e before between after same none = refused-few m l r before between after (sym e ∙ same) none

  -- NO MORE THAN 60 SECONDS IN A ROW ARE FILLED
  pub filled-at-most-60-seconds : FilledAtMost60 input h
  filled-at-most-60-seconds = few-by told.mends told.ends told.all

  unfilled-tail : {n : ℕ} {tail refusal : List Item} → Tail t rows good n tail refusal → unfilled tail ≡ refusal
  unfolding unfilled
  unfilled-tail {n} (filling c) = none-unfilled t c.g.sample n c.missing
  unfilled-tail (refusing l r) = refl

  -- EVERY LINE IS ACCOUNTED FOR
  pub each-line-accounted : EachLineAccounted input rows
  each-line-accounted =
      record {
        items = unfilled (items_of t rows);
        each_row = mends-account told.mends;
        all =
            ap unfilled told.all
            ∙ unfilled-both (items_of t rows) told.tail
            ∙ ap (λ (l : List Item). unfilled (items_of t rows) ++ l) (unfilled-tail told.ends);
      }

-- ---- an accepted one

covers-all : {t : Grid} {rows good : List Recorded} {items : List Item} {n : ℕ} → Mends t rows good items n → (c : Closes t rows good n)
    → Covers t (items ++ filled_from t c.g.sample n c.missing) good 0 t.places
covers-all {t} {good = good} {n = n} m c = rw (append-nil good, c.up_to) at (covers-on (mends-cover m) (covers-filled t c.g.sample n c.missing))

places_of : (h : Header) → (grid_of h).places ≡ up h.quarters * (windows_of (grid_of h).interval).samples
unfolding grid_of
places_of h = refl

-- AN ACCEPTED RECORDING GIVES THE WHOLE STRETCH, each second once and in order
pub whole-stretch : {input : List ℕ} {h : Header} {rows : List Recorded} → AcceptedRecording input h rows → WholeStretch input h rows
whole-stretch {input} {h} {rows} a =
    let t = grid_of h in
    let c = accepted-close a.accepts a.accepted_end in
    let all = a.items ∙ ap (λ (l : List Item). items_of t rows ++ l) c.filled in
    let v : Covers t (recording input) (good_of t rows) 0 (up h.quarters * (windows_of t.interval).samples) =
    rw (all, ← places_of h) (covers-all (accepted-mend a.accepts) c) in
    record { number = covers-number v; lines = v.lines; times = v.times; in_order = v.in_order }
