-- THE MENDER PRINTS WHAT A RECORDING MEANS: how what it holds stands to the lines so far, and that every line keeps it so.
-- Assumes nothing.
use Prim.Native.Nat.{ℕ, suc, ◌+◌, ◌*◌, ◌-◌, ◌%◌, ◌^◌, ◌≤◌, ◌<◌}
use mathlib.Core.Path.{◌≡◌, refl, sym, ap, subst, ◌∙◌}
use mathlib.Core.Bool.{Bool, true, false, cond, not, ◌&&◌, ◌||◌}
use mathlib.Core.Logic.{◌⊎◌, inl, inr}
use mathlib.Core.List.{List, [], ◌∷◌, ◌++◌, append_assoc}
use native.Mathlib.Omega.{arith}
use native.Mathlib.Decide.{dec_le}
use native.Mathlib.Nat.{lt_of_not-le, mul-le-mul_right, suc-mul, mod-eq_of_lt, add-zero, zero-mul}
use borrow.Author.Tests.{lt-ltb, le-ltb, eq-eqb, ne_eqb, eqb-true, not-false}
use lib.Dec.{eqb, ltb}
use lib.IntN.{ℤ, pos}
use lib.ListN.{length}
use Rattle.arithmetic.specs.Whole.{up}
use Rattle.arithmetic.proofs.Signed.{le-true, true-lt, eq_of}
use Rattle.arithmetic.proofs.Booleans.{true-false, both}
use Rattle.vocabulary.specs.Refusals.{Ruling, accepted}
use Rattle.vocabulary.specs.Grounds.{first}
use Rattle.vocabulary.specs.Sample.{power_in_range}
use Rattle.vocabulary.specs.Interval.{windows_of}
use Rattle.vocabulary.specs.declared.interval.Interval.{Interval}
use Rattle.vocabulary.specs.declared.interval.Interval.TheVariants.{One, Three, Four}
use Rattle.std.specs.Prelude.{Option, Some, None, Ok, Err}
use Rattle.vocabulary.specs.declared.refusal.Refusal.TheVariants.{WrongMoment, BadPower, BadLine, NoEnd, NoFirstSample, HoleTooLong, SecondsOutOfOrder}
use Rattle.vocabulary.specs.declared.header.Header.{Header}
use Rattle.vocabulary.specs.declared.sample.Sample.{Sample}
use Rattle.vocabulary.specs.declared.recorded.Recorded.{Recorded}
use Rattle.vocabulary.proofs.Answers.{accepted-none}
use Rattle.contracts.proofs.Accepted.{passed}
use Rattle.reading.specs.Entry.{entry_of}
use Rattle.reading.specs.declared.entry.Entry.{Entry}
use Rattle.reading.specs.declared.entry.Entry.TheVariants as E
use Rattle.lines.specs.Lines.{lines_of, each_line}
use Rattle.lines.specs.Walk.{walk}
use Rattle.lines.specs.Feeding.{with_line, with_end, printed_for}
use Rattle.meaning.proofs.Standing.{header-ground}
use Rattle.mending.specs.declared.grid.Grid.{Grid}
use Rattle.vocabulary.specs.declared.stage.Stage.{Stage}
use Rattle.vocabulary.specs.declared.stage.Stage.TheVariants.{Open, Closed}
use Rattle.mending.specs.declared.mender.Sorted.{Sorted}
use Rattle.mending.specs.declared.mender.Sorted.TheVariants.{Stray, Repeated, Good}
use Rattle.mending.specs.declared.mender.Mender.{Mender}
use Rattle.mending.specs.Mending.{SoFar, nothing, these, over, grid_of, seconds_of, place_of, outside, same, among, is_good, good_from, good_of, Last, none, last, last_of, next_place, is_none}
use Rattle.mending.specs.Mending.{long_hole, is_earlier, recorded_grounds, end_grounds, grounds, ground, Item, refused, kept, filled_from, filled_after, fillings, recorded_items, items}
use Rattle.mending.specs.Mending.{with, says, after, ends, item_text, items_text, recording, mended}
use Rattle.mending.specs.Mender.{Turn, earlier_than, empty_mender, sorted_at, hole_refusal, sorted_refusal, row_refusal, rest_items, row_items, with_row, end_refusal}
use Rattle.mending.specs.Mender.{refused_turn, open_turn, sorted_turn, row_turn, end_turn, turn_at, line_turn, finish_at, finish_turn}
use Rattle.mended.proofs.Standing.{last_end, good-end, OnGrid, on-grid, among-last, Mends, no_line_lem, drops, begins, goes_on_lem, Lasts, no-good, a-good}
use Rattle.mended.proofs.Standing.{Stands, passes, StandsSo, stands-with}

-- ---- what the mender holds, by the last good line and the line just before

abbrev sample_in : Last → Sample
sample_in none = record { setpoint = pos 0; actual = pos 0 }
sample_in (last row) = row.sample

abbrev before_in : Last → Option ℤ
before_in none = None
before_in (last row) = Some row.second

abbrev mender_for : Grid → Last → Last → Mender
mender_for t good before = record { stage = Open; grid = t; next = next_place t good; last = sample_in good; before = before_in before }

abbrev mender_at : Grid → List Recorded → Mender
mender_at t rows = mender_for t (last_of (good_of t rows)) (last_of rows)

-- ---- where a line stands to the next place

some-seconds : (i : Interval) → 1 ≤ (windows_of i).seconds
some-seconds One = omega arith
some-seconds Three = omega arith
some-seconds Four = omega arith

-- places go as their seconds
place-below : (t : Grid) (second : ℤ) (n : ℕ) → OnGrid t second → up second ≤ n * seconds_of t → place_of t second ≤ n
place-below t second n g h =
    elim (dec_le (place_of t second) n) [
      | yes e ↦ e
      | no e ↦
          let far : suc n ≤ place_of t second = omega (arith, lt_of_not-le e) in
          absurd (omega (arith, g.exact, h, some-seconds t.interval, mul-le-mul_right (seconds_of t) far, suc-mul n (seconds_of t)))
    ]

or_cases : (a b : Bool) → (a || b) ≡ true → (a ≡ true) ⊎ (b ≡ true)
or_cases true b e = inl refl
or_cases false b e = inr e

among-both : (second : ℤ) (a b : List Recorded) → among second (a ++ b) ≡ (among second a || among second b)
unfolding among
among-both second [] b = refl
among-both second (row ∷ a) b = ap (λ (x : Bool). same row.second second || x) (among-both second a b) ∙ spread (same row.second second) (among second a) (among second b)
  where
    spread : (x y z : Bool) → (x || (y || z)) ≡ ((x || y) || z)
    spread true y z = refl
    spread false y z = refl

same_second : (row : Recorded) (second : ℤ) → among second (row ∷ []) ≡ true → row.second ≡ second
unfolding among
same_second row second e =
    elim-or (or_cases (same row.second second) false e)
  where
    elim-or : (same row.second second ≡ true) ⊎ (false ≡ true) → row.second ≡ second
    elim-or (inl s) =
        let b = both _ _ s in
        let x = le-true row.second second b.0 in
        let y = le-true second row.second b.1 in
        eq_of row.second second (omega arith)
    elim-or (inr f) = true-false f refl

-- a second of a good line lies before the next place
among-before : {t : Grid} {rows good : List Recorded} {items : List Item} {n : ℕ} → Mends t rows good items n → (second : ℤ) → OnGrid t second → among second good ≡ true → place_of t second < n
unfolding among
among-before no_line_lem second g e = true-false e refl
among-before (drops d m) second g e = among-before m second g e
among-before {t} (begins row f room z m) second g e =
    let s : up second ≡ 0 = ap up (sym (same_second row second e)) ∙ z in
    omega (arith, place-below t second 0 g (omega (arith, s)))
among-before {t} (goes_on_lem {good = good} {n = n} row k i f within exact short m) second g e =
    by-which (λ a. among-before m second g a) (or_cases (among second good) (among second (row ∷ [])) (sym (among-both second good (row ∷ [])) ∙ e))
  where
    by-which : (among second good ≡ true → place_of t second < n) → (among second good ≡ true) ⊎ (among second (row ∷ []) ≡ true) → place_of t second < n + k + 1
    by-which before (inl a) = omega (arith, before a)
    by-which before (inr b) =
        let s : up second ≡ (n + k) * seconds_of t = ap up (sym (same_second row second b)) ∙ exact in
        omega (arith, place-below t second (n + k) g (omega (arith, s)))

-- ---- the four cases of a line: O; T; too early, so refused; good

pub data Case (t : Grid) (rows : List Recorded) (row : Recorded) : Type 0 where
  strays : outside t row.second ≡ true → Case t rows row
  repeats : outside t row.second ≡ false → among row.second (good_of t rows) ≡ true → place_of t row.second < next_place t (last_of (good_of t rows)) → Case t rows row
  too-early : outside t row.second ≡ false → among row.second (good_of t rows) ≡ false → place_of t row.second < next_place t (last_of (good_of t rows))
      → is_none (last_of (good_of t rows)) ≡ false → is_earlier row.second (last_of rows) ≡ true → Case t rows row
  is-good : outside t row.second ≡ false → among row.second (good_of t rows) ≡ false → next_place t (last_of (good_of t rows)) ≤ place_of t row.second → Case t rows row

module _ (t : Grid) (rows : List Recorded) (row : Recorded) (so : Stands t rows) where
  early : (gd : List Recorded) (l b : Last) → good_of t rows ≡ gd → Lasts t gd l b → outside t row.second ≡ false → among row.second (good_of t rows) ≡ false
      → place_of t row.second < next_place t l → (is_none l ≡ false) × (is_earlier row.second b ≡ true)
  early gd l b eg no-good o new h = absurd (omega arith)
  early gd l b eg (a-good {g = g} {r = r} i og later) o new h =
      let here = on-grid t row.second o in
      let there = on-grid t g.second og in
      let p : place_of t row.second ≤ place_of t g.second = omega arith in
      let not_after : up row.second ≤ up g.second = omega (arith, here.exact, there.exact, mul-le-mul_right (seconds_of t) p) in
      let other : up row.second ≡ up g.second → ⊥ = λ e.
      true-false
      (ap (λ (z : ℤ). among z (good_of t rows)) (eq_of row.second g.second (omega (arith, here.forward, there.forward))) ∙ ap (among g.second) eg ∙ among-last i)
      new in
      let differs : up row.second < up g.second = below (up row.second) (up g.second) not_after other in
      (refl, true-lt row.second r.second (omega (arith, here.forward, there.forward)))
    where
      below : (a b : ℕ) → a ≤ b → (a ≡ b → ⊥) → a < b
      below a b h n = elim (dec_le b a) [
        | yes e ↦ absurd (n (omega arith))
        | no e ↦ lt_of_not-le e
      ]

  case-of : (o : Bool) → outside t row.second ≡ o → (a : Bool) → among row.second (good_of t rows) ≡ a → Case t rows row
  case-of true eo a ea = strays eo
  case-of false eo true ea = repeats eo ea (among-before so.mends row.second (on-grid t row.second eo) ea)
  case-of false eo false ea =
      elim (dec_le (next_place t (last_of (good_of t rows))) (place_of t row.second)) [
        | yes h ↦ is-good eo ea h
        | no h ↦
            let e = early (good_of t rows) (last_of (good_of t rows)) (last_of rows) refl so.lasts eo ea (lt_of_not-le h) in
            too-early eo ea (lt_of_not-le h) e.0 e.1
      ]

  the-case : Case t rows row
  the-case = case-of (outside t row.second) refl (among row.second (good_of t rows)) refl

-- ---- why a line is refused

-- "a second smaller than the line's before"
earlier-is : (second : ℤ) (b : Last) → earlier_than (before_in b) second ≡ is_earlier second b
earlier-is second none = refl
earlier-is second (last row) = refl

-- 19 and 20 before 21
abbrev hole_first : Bool → Bool → Ruling → Ruling
hole_first x y rest = cond x (Err NoFirstSample) (cond y (Err HoleTooLong) rest)

hole-first : (x y z : Bool) → cond (accepted (hole_first x y (Ok tt))) (cond z (Err SecondsOutOfOrder) (Ok tt)) (hole_first x y (Ok tt)) ≡ hole_first x y (cond z (Err SecondsOutOfOrder) (Ok tt))
hole-first true y z = refl
hole-first false true z = refl
hole-first false false z = refl

none_is : (t : Grid) (l : Last) → eqb (next_place t l) 0 ≡ is_none l
none_is t none = refl
none_is t (last row) = ne_eqb (place_of t row.second + 1) 0 (λ e. omega arith)

-- the place is 0 where the second is
zero-place : (t : Grid) (second : ℤ) → OnGrid t second → eqb (place_of t second) 0 ≡ eqb (up second) 0
zero-place t second g =
    elim (dec_le (up second) 0) [
      | yes h ↦
          let p = place-below t second 0 g (omega arith) in
          eq-eqb (place_of t second) 0 (omega arith) ∙ sym (eq-eqb (up second) 0 (omega arith))
      | no h ↦
          let some = lt_of_not-le h in
          ne_eqb (place_of t second) 0 (λ e. omega (arith, g.exact, ap (λ (n : ℕ). n * seconds_of t) e)) ∙ sym (ne_eqb (up second) 0 (λ e. omega arith))
    ]

-- what is missing before a place, where none is missing before the first good line
filled_is : (t : Grid) (l : Last) (at : ℕ) → (is_none l ≡ true → at ≡ 0) → filled_from t (sample_in l) (next_place t l) (at - next_place t l) ≡ filled_after t l at
unfolding filled_from
filled_is t none at z = let e : at - 0 ≡ 0 = omega (arith, z refl) in ap (filled_from t (sample_in none) 0) e
filled_is t (last g) at z = refl

module _ (t : Grid) (rows : List Recorded) (row : Recorded) where
  abbrev m : Mender
  m = mender_at t rows

  abbrev goods : List Recorded
  goods = good_of t rows

  abbrev place : ℕ
  place = place_of t row.second

  abbrev later : Bool
  later = earlier_than (before_in (last_of rows)) row.second

  later-is : later ≡ is_earlier row.second (last_of rows)
  later-is = earlier-is row.second (last_of rows)

  -- what the code takes it for
  is-stray : outside t row.second ≡ true → sorted_at m row.second ≡ Stray
  unfolding sorted_at
  is-stray o = rw o

  is-repeated : outside t row.second ≡ false → place < next_place t (last_of goods) → sorted_at m row.second ≡ Repeated
  unfolding sorted_at
  is-repeated o h = rw (o, lt-ltb place (next_place t (last_of goods)) h)

  is-kept : outside t row.second ≡ false → next_place t (last_of goods) ≤ place → sorted_at m row.second ≡ Good place
  unfolding sorted_at
  is-kept o h = rw (o, le-ltb place (next_place t (last_of goods)) h)

  -- the powers come first, in both
  abbrev powers : Ruling → Ruling
  powers rest = cond (not (power_in_range row.sample.setpoint)) (Err BadPower) (cond (not (power_in_range row.sample.actual)) (Err BadPower) rest)

  abbrev no_first : Bool
  no_first = is_good t goods row && is_none (last_of goods) && not (eqb (up row.second) 0)

  abbrev too_long : Bool
  too_long = is_good t goods row && long_hole t rows place

  grounds-are : first (recorded_grounds t rows row)
      ≡ powers (cond no_first (Err NoFirstSample) (cond too_long (Err HoleTooLong) (cond (is_earlier row.second (last_of rows)) (Err SecondsOutOfOrder) (Ok tt))))
  unfolding recorded_grounds
  grounds-are = refl

  dropped-refusal : (sorted : Sorted) → sorted_refusal m sorted ≡ Ok tt → is_good t goods row ≡ false → row_refusal m sorted row ≡ first (recorded_grounds t rows row)
  unfolding row_refusal
  dropped-refusal sorted s g =
      ap (λ (r : Ruling). powers (cond (accepted r) (cond later (Err SecondsOutOfOrder) (Ok tt)) r)) s
      ∙ ap (λ (b : Bool). powers (cond b (Err SecondsOutOfOrder) (Ok tt))) later-is
      ∙ sym (grounds-are ∙ ap (λ (b : Bool). powers (cond (b && is_none (last_of goods) && not (eqb (up row.second) 0)) (Err NoFirstSample)
      (cond (b && long_hole t rows place) (Err HoleTooLong) (cond (is_earlier row.second (last_of rows)) (Err SecondsOutOfOrder) (Ok tt))))) g)

  -- the rest of the grounds of a line that is good
  abbrev good_rest : Bool → Bool → Bool → Ruling
  good_rest x y z = powers (cond x (Err NoFirstSample) (cond y (Err HoleTooLong) (cond z (Err SecondsOutOfOrder) (Ok tt))))

  good-grounds : is_good t goods row ≡ true
      → first (recorded_grounds t rows row) ≡ good_rest (is_none (last_of goods) && not (eqb (up row.second) 0)) (long_hole t rows place) (is_earlier row.second (last_of rows))
  good-grounds g =
      grounds-are
      ∙ ap (λ (b : Bool). good_rest (b && is_none (last_of goods) && not (eqb (up row.second) 0)) (b && long_hole t rows place) (is_earlier row.second (last_of rows))) g

  no-hole : place < next_place t (last_of goods) → long_hole t rows place ≡ false
  no-hole h =
      let e : place - next_place t (last_of goods) ≡ 0 = omega arith in
      ap (λ (k : ℕ). ltb 60 (k * seconds_of t)) e ∙ ap (ltb 60) (zero-mul (seconds_of t))

  early-refusal : is_good t goods row ≡ true → place < next_place t (last_of goods) → is_none (last_of goods) ≡ false → is_earlier row.second (last_of rows) ≡ true
      → row_refusal m Repeated row ≡ first (recorded_grounds t rows row)
  unfolding row_refusal
  early-refusal g h n e =
      ap (λ (b : Bool). powers (cond b (Err SecondsOutOfOrder) (Ok tt))) later-is
      ∙ sym
      (good-grounds g
      ∙ ap (λ (b : Bool). good_rest (b && not (eqb (up row.second) 0)) (long_hole t rows place) (is_earlier row.second (last_of rows))) n
      ∙ ap (λ (b : Bool). good_rest false b (is_earlier row.second (last_of rows))) (no-hole h))

  kept-refusal : is_good t goods row ≡ true → OnGrid t row.second → row_refusal m (Good place) row ≡ first (recorded_grounds t rows row)
  unfolding row_refusal hole_refusal
  kept-refusal g here =
      ap powers
      (hole-first (eqb (next_place t (last_of goods)) 0 && not (eqb place 0)) (long_hole t rows place) later
      ∙ ap (λ (b : Bool). cond (b && not (eqb place 0)) (Err NoFirstSample) (cond (long_hole t rows place) (Err HoleTooLong) (cond later (Err SecondsOutOfOrder) (Ok tt)))) (none_is t (last_of goods))
      ∙ ap (λ (b : Bool). cond (is_none (last_of goods) && not b) (Err NoFirstSample) (cond (long_hole t rows place) (Err HoleTooLong) (cond later (Err SecondsOutOfOrder) (Ok tt)))) (zero-place t row.second here)
      ∙ ap (λ (b : Bool). cond (is_none (last_of goods) && not (eqb (up row.second) 0)) (Err NoFirstSample) (cond (long_hole t rows place) (Err HoleTooLong) (cond b (Err SecondsOutOfOrder) (Ok tt)))) later-is)
      ∙ sym (good-grounds g)

  refusal_is : Case t rows row → row_refusal m (sorted_at m row.second) row ≡ first (recorded_grounds t rows row)
  unfolding is_good
  refusal_is (strays o) = ap (λ s. row_refusal m s row) (is-stray o) ∙ dropped-refusal Stray refl (rw o)
  refusal_is (repeats o a h) = ap (λ s. row_refusal m s row) (is-repeated o h) ∙ dropped-refusal Repeated refl (rw (o, a))
  refusal_is (too-early o a h n e) =
      let good-is : is_good t goods row ≡ true = rw (o, a) in
      ap (λ s. row_refusal m s row) (is-repeated o h)
      ∙ early-refusal good-is h n e
  refusal_is (is-good o a h) =
      let good-is : is_good t goods row ≡ true = rw (o, a) in
      ap (λ s. row_refusal m s row) (is-kept o h)
      ∙ kept-refusal good-is (on-grid t row.second o)

  -- ---- what a line that is not refused comes to

  -- 21 is given where it comes too early
  never-early : is_good t goods row ≡ true → is_none (last_of goods) ≡ false → place < next_place t (last_of goods) → is_earlier row.second (last_of rows) ≡ true
      → first (recorded_grounds t rows row) ≡ Ok tt → ⊥
  never-early g n h e none-holds = true-false e (passes t rows row none-holds).not_earlier

  row-items : Case t rows row → first (recorded_grounds t rows row) ≡ Ok tt → row_items m (sorted_at m row.second) row ≡ recorded_items t rows row
  unfolding recorded_items rest_items fillings is_good
  row-items (strays o) a = ap (λ s. row_items m s row) (is-stray o) ∙ rw o
  row-items (repeats o n h) a = ap (λ s. row_items m s row) (is-repeated o h) ∙ rw (o, n)
  row-items (too-early o n h k e) a = absurd (never-early (rw (o, n)) k h e a)
  row-items (is-good o n h) a =
      let p = passes t rows row a in
      let here = on-grid t row.second o in
      let zero-there : is_none (last_of goods) ≡ true → place ≡ 0 = λ e.
      (let f : not (eqb (up row.second) 0) ≡ false = rw (o, n, e) at p.first-here in
      let z : up row.second ≡ 0 = eqb-true (up row.second) 0 (not-false (eqb (up row.second) 0) f) in
      let q = place-below t row.second 0 here (omega arith) in
      (omega arith)) in
      ap (λ s. row_items m s row) (is-kept o h)
      ∙ ap (λ (l : List Item). l ++ (kept row.sample ∷ [])) (filled_is t (last_of goods) place zero-there)
      ∙ sym (rw (o, n))

  -- the good lines and the last line after it
  after-dropped : is_good t goods row ≡ false → mender_at t (rows ++ (row ∷ [])) ≡ mender_for t (last_of goods) (last row)
  after-dropped g =
      ap (λ (gs : List Recorded). mender_for t (last_of gs) (last_of (rows ++ (row ∷ [])))) (good-end t rows row ∙ ap (λ (b : Bool). cond b (goods ++ (row ∷ [])) goods) g)
      ∙ ap (mender_for t (last_of goods)) (last_end rows row)

  after_kept : is_good t goods row ≡ true → mender_at t (rows ++ (row ∷ [])) ≡ mender_for t (last row) (last row)
  after_kept g =
      ap (λ (gs : List Recorded). mender_for t (last_of gs) (last_of (rows ++ (row ∷ [])))) (good-end t rows row ∙ ap (λ (b : Bool). cond b (goods ++ (row ∷ [])) goods) g)
      ∙ ap (λ (l : Last). mender_for t l (last_of (rows ++ (row ∷ [])))) (last_end goods row)
      ∙ ap (mender_for t (last row)) (last_end rows row)

  row-mender : Case t rows row → first (recorded_grounds t rows row) ≡ Ok tt → with_row m (sorted_at m row.second) row ≡ mender_at t (rows ++ (row ∷ []))
  unfolding is_good
  row-mender (strays o) a = ap (λ s. with_row m s row) (is-stray o) ∙ sym (after-dropped (rw o))
  row-mender (repeats o n h) a = ap (λ s. with_row m s row) (is-repeated o h) ∙ sym (after-dropped (rw (o, n)))
  row-mender (too-early o n h k e) a = absurd (never-early (rw (o, n)) k h e a)
  row-mender (is-good o n h) a = ap (λ s. with_row m s row) (is-kept o h) ∙ sym (after_kept (rw (o, n)))

-- ---- how it stands to what was given, and that a line keeps it so

pub data StandsFor : SoFar → Mender → Type 0 where
  at_first_lem : StandsFor nothing empty_mender
  amid : {h : Header} {rows : List Recorded} → StandsSo (these h rows) → StandsFor (these h rows) (mender_at (grid_of h) rows)
  at_last : {m : Mender} → m.stage ≡ Closed → StandsFor over m

-- a line's turn: it says what the line says, and stands to what is given then
pub record Step (so : SoFar) (n : ℕ) (line : List ℕ) (turn : Turn) : Type 0 where
  pub text : turn.text ≡ items_text (says so n line)
  pub stands : StandsFor (after so line) turn.desk

-- the same of what a line says
record Does (so : SoFar) (n : ℕ) (entry : Entry) (turn : Turn) : Type 0 where
  text : turn.text ≡ items_text (cond (accepted (ground so entry)) (items so entry) (refused n (ground so entry) ∷ []))
  stands : StandsFor (cond (accepted (ground so entry)) (with so entry) over) turn.desk

-- refused
refuses : (so : SoFar) (m : Mender) (n : ℕ) (entry : Entry) (refusal : Ruling) → ground so entry ≡ refusal → accepted refusal ≡ false → Does so n entry (refused_turn m n refusal)
unfolding refused_turn
refuses so m n entry refusal e f =
    record {
      text = sym (ap (λ (r : Ruling). items_text (cond (accepted r) (items so entry) (refused n r ∷ []))) e ∙ ap (λ (b : Bool). items_text (cond b (items so entry) (refused n refusal ∷ []))) f);
      stands = rw (e, f) (at_last refl);
    }

-- not refused
goes : (so : SoFar) (n : ℕ) (entry : Entry) (turn : Turn) → accepted (ground so entry) ≡ true → turn.text ≡ items_text (items so entry) → StandsFor (with so entry) turn.desk → Does so n entry turn
goes so n entry turn a t s = record { text = t ∙ sym (ap (λ (b : Bool). items_text (cond b (items so entry) (refused n (ground so entry) ∷ []))) a); stands = rw a s }

-- by a refusal that is the ground
either : (so : SoFar) (m : Mender) (n : ℕ) (entry : Entry) (refusal : Ruling) (turn : Turn) → refusal ≡ ground so entry
    → (accepted (ground so entry) ≡ true → Does so n entry turn) → Does so n entry (cond (accepted refusal) turn (refused_turn m n refusal))
either so m n entry refusal turn e f = by_answer (accepted refusal) refl
  where
    by_answer : (b : Bool) → accepted refusal ≡ b → Does so n entry (cond b turn (refused_turn m n refusal))
    by_answer true a = f (ap accepted (sym e) ∙ a)
    by_answer false a = refuses so m n entry refusal (sym e) a

-- a header
opens : (n : ℕ) (h : Header) → Does nothing n (E.Header h) (open_turn empty_mender n h)
unfolding open_turn grounds items with empty_mender good_of good_from last_of items_text
opens n h =
    either nothing empty_mender n (E.Header h) _ _ (header-ground h)
    (λ a. goes nothing n (E.Header h) _ a refl (amid {h = h} {rows = []} (stands-with nothing (E.Header h) a tt)))

module _ (h : Header) (rows : List Recorded) (s : StandsSo (these h rows)) where
  abbrev t : Grid
  t = grid_of h

  -- a recorded sample
  records : (n : ℕ) (row : Recorded) → Does (these h rows) n (E.Recorded row) (row_turn (mender_at t rows) n row)
  unfolding grounds items with sorted_turn
  records n row =
      let c = the-case t rows row s.1 in
      either (these h rows) (mender_at t rows) n (E.Recorded row) _ _ (refusal_is t rows row c)
      (λ a.
      (let none-holds = accepted-none (first (recorded_grounds t rows row)) a in
      goes (these h rows) n (E.Recorded row) _ a (ap items_text (row-items t rows row c none-holds))
      (rw (row-mender t rows row c none-holds) (amid {h = h} {rows = rows ++ (row ∷ [])} (stands-with (these h rows) (E.Recorded row) a s)))))

  -- the end
  end-refusal : end_refusal (mender_at t rows) ≡ first (end_grounds t rows)
  unfolding end_refusal end_grounds
  end-refusal = ap (λ (b : Bool). cond b (Err NoFirstSample) (cond (long_hole t rows t.places) (Err HoleTooLong) (Ok tt))) (none_is t (last_of (good_of t rows)))

  some_good : first (end_grounds t rows) ≡ Ok tt → is_none (last_of (good_of t rows)) ≡ false
  unfolding end_grounds
  some_good e = (passed _ NoFirstSample _ e).0

  ended : (n : ℕ) → Does (these h rows) n E.End (end_turn (mender_at t rows) n)
  unfolding end_turn grounds items with rest_items fillings
  ended n =
      either (these h rows) (mender_at t rows) n E.End _ _ end-refusal
      (λ a.
      (let f = some_good (accepted-none (first (end_grounds t rows)) a) in
      goes (these h rows) n E.End _ a
      (ap items_text (filled_is t (last_of (good_of t rows)) t.places (λ e. true-false e f)))
      (at_last refl)))

-- ---- every line

does : {so : SoFar} {m : Mender} → StandsFor so m → (n : ℕ) (entry : Entry) → Does so n entry (turn_at m.stage m n entry)
unfolding empty_mender grounds items with items_text
does at_first_lem n (E.Header h) = opens n h
does at_first_lem n (E.Recorded row) = refuses nothing _ n (E.Recorded row) (Err WrongMoment) refl refl
does at_first_lem n E.End = refuses nothing _ n E.End (Err WrongMoment) refl refl
does at_first_lem n E.Malformed = refuses nothing _ n E.Malformed (Err BadLine) refl refl
does (amid {h} {rows} s) n (E.Header k) = refuses (these h rows) _ n (E.Header k) (Err WrongMoment) refl refl
does (amid {h} {rows} s) n (E.Recorded row) = records h rows s n row
does (amid {h} {rows} s) n E.End = ended h rows s n
does (amid {h} {rows} s) n E.Malformed = refuses (these h rows) _ n E.Malformed (Err BadLine) refl refl
does (at_last {m} c) n entry = subst (Does over n entry) (sym (ap (λ (st : Stage). turn_at st m n entry) c)) (record { text = refl; stands = at_last c })

pub line_step : {so : SoFar} {m : Mender} → StandsFor so m → (n : ℕ) (line : List ℕ) → Step so n line (line_turn m n line)
unfolding line_turn says after
line_step s n line = let d = does s n (entry_of line) in record { text = d.text; stands = d.stands }

-- the end of the input
finish-says : {so : SoFar} {m : Mender} → StandsFor so m → (count : ℕ) → count + 1 < 2 ^ 64 → (finish_turn m count).text ≡ items_text (ends so (count + 1))
unfolding finish_turn refused_turn empty_mender ends items_text
finish-says at_first_lem count few = ap (λ (n : ℕ). items_text (refused n (Err NoEnd) ∷ [])) (mod-eq_of_lt few)
finish-says (amid s) count few = ap (λ (n : ℕ). items_text (refused n (Err NoEnd) ∷ [])) (mod-eq_of_lt few)
finish-says (at_last {m} c) count few = ap (λ (st : Stage). (finish_at st m ((count + 1) % 2 ^ 64)).text) c

-- ---- all lines

items-both : (a b : List Item) → items_text (a ++ b) ≡ items_text a ++ items_text b
unfolding items_text
items-both [] b = refl
items-both (x ∷ a) b = ap (λ (l : List ℕ). item_text x ++ l) (items-both a b) ∙ sym (append_assoc (item_text x) (items_text a) (items_text b))

walked : (lines : List (List ℕ)) {so : SoFar} {m : Mender} → StandsFor so m → (n : ℕ) (text : List ℕ) → n + length lines + 1 < 2 ^ 64
    → with_end line_turn finish_turn (each_line (with_line line_turn finish_turn) (record { desk = m; text = text }) n lines) (n + length lines) ≡ text ++ items_text (walk says after ends so (n + 1) lines)
unfolding each_line walk
walked [] {so} {m} s n text few =
    let e : n + 0 ≡ n = add-zero n in
    ap (λ (k : ℕ). text ++ (finish_turn m k).text) e ∙ ap (λ (l : List ℕ). text ++ l) (finish-says s n (omega arith))
walked (line ∷ lines) {so} {m} s n text few =
    let d = line_step s (n + 1) line in
    let e : n + length (line ∷ lines) ≡ n + 1 + length lines = omega arith in
    let turn : Turn = line_turn m (n + 1) line in
    let rest : List Item = walk says after ends (after so line) (n + 1 + 1) lines in
    ap (λ (k : ℕ). with_end line_turn finish_turn (each_line (with_line line_turn finish_turn) (record { desk = turn.desk; text = text ++ turn.text }) (n + 1) lines) k) e
    ∙ walked lines d.stands (n + 1) (text ++ turn.text) (omega arith)
    ∙ append_assoc text turn.text (items_text rest)
    ∙ ap (λ (l : List ℕ). text ++ (l ++ items_text rest)) d.text
    ∙ ap (λ (l : List ℕ). text ++ l) (sym (items-both (says so (n + 1) line) rest))

-- WHAT THE MENDER PRINTS for the lines of an input is what the recording means (its lines can be counted)
pub mender-means : (input : List ℕ) → length (lines_of input) + 1 < 2 ^ 64 → printed_for line_turn finish_turn empty_mender (lines_of input) ≡ mended input
unfolding printed_for mended recording
mender-means input few =
    let e : length (lines_of input) ≡ 0 + length (lines_of input) = omega arith in
    ap (with_end line_turn finish_turn (each_line (with_line line_turn finish_turn) (record { desk = empty_mender; text = [] }) 0 (lines_of input))) e
    ∙ walked (lines_of input) at_first_lem 0 [] (omega arith)
