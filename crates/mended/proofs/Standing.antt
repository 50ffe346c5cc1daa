-- How what is printed grows with the lines that are accepted: the good lines rise from place to place, and what is missing between two of them is filled.
-- Assumes nothing.
use Prim.Native.Nat.{ℕ, ◌+◌, ◌*◌, ◌-◌, ◌/◌, ◌%◌, ◌≤◌, ◌<◌}
use mathlib.Core.Path.{◌≡◌, refl, sym, ap, ◌∙◌}
use mathlib.Core.Bool.{Bool, true, false, cond, not, ◌&&◌, ◌||◌}
use mathlib.Core.List.{List, [], ◌∷◌, ◌++◌}
use native.Mathlib.Omega.{arith}
use native.Mathlib.Decide.{dec_le}
use native.Mathlib.Nat.{lt_of_not-le, div-add-mod', mul-le-mul_right, add-zero, zero-div}
use borrow.Author.Tests.{leb-false, ltb-false, eqb-true, not-false}
use lib.Dec.{eqb, leb}
use lib.IntN.{ℤ, pos}
use lib.Signed.{lt_z}
use Rattle.arithmetic.specs.Whole.{up, down}
use Rattle.arithmetic.proofs.Signed.{lt-false, true-le, up_pos, down_pos, down-zero, eq_of}
use Rattle.arithmetic.proofs.Booleans.{true-false, neither}
use Rattle.std.specs.Prelude.{Ok}
use Rattle.vocabulary.specs.Refusals.{accepted}
use Rattle.vocabulary.specs.Grounds.{first}
use Rattle.vocabulary.specs.declared.refusal.Refusal.TheVariants.{BadPower, NoFirstSample, HoleTooLong, SecondsOutOfOrder}
use Rattle.vocabulary.specs.declared.header.Header.{Header}
use Rattle.vocabulary.specs.declared.recorded.Recorded.{Recorded}
use Rattle.vocabulary.proofs.Answers.{accepted-none}
use Rattle.contracts.proofs.Accepted.{passed}
use Rattle.settlement.specs.Calls.{header_grounds}
use Rattle.reading.specs.Entry.{entry_of}
use Rattle.reading.specs.declared.entry.Entry.{Entry}
use Rattle.reading.specs.declared.entry.Entry.TheVariants as E
use Rattle.meaning.specs.Endings.{FairSample}
use Rattle.mending.specs.declared.grid.Grid.{Grid}
use Rattle.mending.specs.Mending.{SoFar, nothing, these, over, grid_of, seconds_of, place_of, outside, same, among, is_good, with_good, good_from, good_of}
use Rattle.mending.specs.Mending.{Last, none, last, last_of, next_place, missing, is_none, long_hole, is_earlier, recorded_grounds, end_grounds, grounds, ground}
use Rattle.mending.specs.Mending.{Item, stray, repeated, kept, filled_from, filled_after, fillings, recorded_items, with}
use Rattle.mended.specs.Endings.{items_from, items_of, Accepts}
use Rattle.mended.specs.Endings as Ends
use Rattle.mended.specs.Promises.{EndsIn}
use Rattle.mended.proofs.Endings.{items-end}

-- ---- one line more

pub last_end : (rows : List Recorded) (row : Recorded) → last_of (rows ++ (row ∷ [])) ≡ last row
unfolding last_of
last_end [] row = refl
last_end (x ∷ []) row = refl
last_end (x ∷ (y ∷ rows)) row = last_end (y ∷ rows) row

good-from-end : (t : Grid) (good rows : List Recorded) (row : Recorded) → good_from t good (rows ++ (row ∷ [])) ≡ with_good t (good_from t good rows) row
unfolding good_from
good-from-end t good [] row = refl
good-from-end t good (x ∷ rows) row = good-from-end t (with_good t good x) rows row

pub good-end : (t : Grid) (rows : List Recorded) (row : Recorded) → good_of t (rows ++ (row ∷ [])) ≡ with_good t (good_of t rows) row
unfolding good_of
good-end t rows row = good-from-end t [] rows row

-- ---- the place of a line that is not outside

pub record OnGrid (t : Grid) (second : ℤ) : Type 0 where
  pub forward : down second ≡ 0
  pub inside : place_of t second < t.places
  pub exact : up second ≡ place_of t second * seconds_of t

pub on-grid : (t : Grid) (second : ℤ) → outside t second ≡ false → OnGrid t second
unfolding outside
on-grid t second e =
    let a = neither (lt_z second (pos 0) || leb t.places (place_of t second)) (not (eqb (up second % seconds_of t) 0)) e in
    let b = neither (lt_z second (pos 0)) (leb t.places (place_of t second)) a.0 in
    let multiple : up second % seconds_of t ≡ 0 = eqb-true (up second % seconds_of t) 0 (not-false (eqb (up second % seconds_of t) 0) a.1) in
    let whole : up second / seconds_of t * seconds_of t + up second % seconds_of t ≡ up second = div-add-mod' (up second) (seconds_of t) in
    record {
      forward = down-zero second (omega (arith, lt-false second (pos 0) b.0, up_pos 0, down_pos 0));
      inside = leb-false t.places (place_of t second) b.1;
      exact = sym whole ∙ ap (λ (r : ℕ). up second / seconds_of t * seconds_of t + r) multiple ∙ add-zero (up second / seconds_of t * seconds_of t);
    }

-- ---- the last good line is among them

or-true : (a : Bool) → (a || true) ≡ true
or-true true = refl
or-true false = refl

same_self : (a : ℤ) → same a a ≡ true
same_self a = rw (true-le a a (omega arith))

among-end : (before : List Recorded) (g : Recorded) → among g.second (before ++ (g ∷ [])) ≡ true
unfolding among
among-end [] g = rw (same_self g.second)
among-end (row ∷ before) g = rw (among-end before g) (or-true (same row.second g.second))

pub among-last : {good : List Recorded} {g : Recorded} → EndsIn g good → among g.second good ≡ true
among-last {g = g} e = rw e.is (among-end e.before g)

-- ---- WHAT LINES THAT ARE ACCEPTED COME TO: the lines, the good ones, what is printed for them, and the next place

pub data Dropped (row : Recorded) : Item → Type 0 where
  as_stray : Dropped row (stray row.second)
  as_repeated : Dropped row (repeated row.second)

pub data Mends (t : Grid) : List Recorded → List Recorded → List Item → ℕ → Type 0 where
  no_line_lem : Mends t [] [] [] 0
  -- O or T
  drops : {rows good : List Recorded} {items : List Item} {n : ℕ} {row : Recorded} {item : Item} → Dropped row item → Mends t rows good items n
      → Mends t (rows ++ (row ∷ [])) good (items ++ (item ∷ [])) n
  -- the first good line, for second 0
  begins : {rows : List Recorded} {items : List Item} (row : Recorded) → FairSample row.sample → 0 < t.places → up row.second ≡ 0 → Mends t rows [] items 0
      → Mends t (rows ++ (row ∷ [])) (row ∷ []) (items ++ (kept row.sample ∷ [])) 1
  -- another one, after k that are missing
  goes_on_lem : {rows good : List Recorded} {items : List Item} {n : ℕ} {g : Recorded} (row : Recorded) (k : ℕ) → EndsIn g good → FairSample row.sample → n + k < t.places
      → up row.second ≡ (n + k) * seconds_of t → k * seconds_of t ≤ 60 → Mends t rows good items n
      → Mends t (rows ++ (row ∷ [])) (good ++ (row ∷ [])) (items ++ (filled_from t g.sample n k ++ (kept row.sample ∷ []))) (n + k + 1)

-- the last good line, and the last line, which is for no earlier second
pub data Lasts (t : Grid) : List Recorded → Last → Last → Type 0 where
  no-good : {l : Last} → Lasts t [] none l
  a-good : {good : List Recorded} {g r : Recorded} → EndsIn g good → outside t g.second ≡ false → up g.second + down r.second ≤ up r.second + down g.second
      → Lasts t good (last g) (last r)

pub record Stands (t : Grid) (rows : List Recorded) : Type 0 where
  pub mends : Mends t rows (good_of t rows) (items_of t rows) (next_place t (last_of (good_of t rows)))
  pub lasts : Lasts t (good_of t rows) (last_of (good_of t rows)) (last_of rows)

pub stands-none : (t : Grid) → Stands t []
unfolding good_of good_from last_of items_from
stands-none t = record { mends = no_line_lem; lasts = no-good }

-- ---- a line that is accepted

pub record Passed (t : Grid) (rows : List Recorded) (row : Recorded) : Type 0 where
  pub fair : FairSample row.sample
  pub first-here : (is_good t (good_of t rows) row && is_none (last_of (good_of t rows)) && not (eqb (up row.second) 0)) ≡ false
  pub small-hole : (is_good t (good_of t rows) row && long_hole t rows (place_of t row.second)) ≡ false
  pub not_earlier : is_earlier row.second (last_of rows) ≡ false

pub passes : (t : Grid) (rows : List Recorded) (row : Recorded) → first (recorded_grounds t rows row) ≡ Ok tt → Passed t rows row
unfolding recorded_grounds
passes t rows row e =
    let a = passed _ BadPower _ e in
    let b = passed _ BadPower _ a.1 in
    let c = passed _ NoFirstSample _ b.1 in
    let d = passed _ HoleTooLong _ c.1 in
    let f = passed _ SecondsOutOfOrder _ d.1 in
    record { fair = record { setpoint = not-false _ a.0; actual = not-false _ b.0 }; first-here = c.0; small-hole = d.0; not_earlier = f.0 }

-- ---- it is O or T, or good: and so it stands with that line, too

-- the last line is for no earlier second than the last good one, and no line for an earlier one than the last
lasts_on : (t : Grid) {good : List Recorded} {l m : Last} (row : Recorded) → Lasts t good l m → is_earlier row.second m ≡ false → Lasts t good l (last row)
lasts_on t row no-good e = no-good
lasts_on t row (a-good {g = g} {r = r} i o c) e =
    let d = lt-false row.second r.second e in
    let later : up g.second + down row.second ≤ up row.second + down g.second = omega arith in
    a-good i o later

module _ (t : Grid) (rows : List Recorded) (row : Recorded) (so : Stands t rows) (p : Passed t rows row) where
  abbrev good : List Recorded
  good = good_of t rows

  -- where it is dropped
  module _ {item : Item} (d : Dropped row item) (not-good : is_good t good row ≡ false) (says : recorded_items t rows row ≡ item ∷ []) where
    same_good : good_of t (rows ++ (row ∷ [])) ≡ good
    same_good = good-end t rows row ∙ ap (λ (b : Bool). cond b (good ++ (row ∷ [])) good) not-good

    item-more : items_of t (rows ++ (row ∷ [])) ≡ items_of t rows ++ (item ∷ [])
    item-more = items-end t [] rows row ∙ ap (λ (l : List Item). items_of t rows ++ l) says

    stands-dropped : Stands t (rows ++ (row ∷ []))
    stands-dropped =
        record {
          mends = rw (same_good, item-more) (drops d so.mends);
          lasts = rw (same_good, last_end rows row) (lasts_on t row so.lasts p.not_earlier);
        }

  -- where it is good
  module _ (o : outside t row.second ≡ false) (new : among row.second good ≡ false) where
    is-good : is_good t good row ≡ true
    unfolding is_good
    is-good = rw (o, new)

    more-good : good_of t (rows ++ (row ∷ [])) ≡ good ++ (row ∷ [])
    more-good = good-end t rows row ∙ ap (λ (b : Bool). cond b (good ++ (row ∷ [])) good) is-good

    good-items : recorded_items t rows row ≡ fillings t rows (place_of t row.second) ++ (kept row.sample ∷ [])
    unfolding recorded_items
    good-items = rw (o, new)

    abbrev place : ℕ
    place = place_of t row.second

    here : OnGrid t row.second
    here = on-grid t row.second o

    next-after : next_place t (last_of (good ++ (row ∷ []))) ≡ place + 1
    next-after = ap (next_place t) (last_end good row)

    items_more : (l : Last) → last_of good ≡ l → items_of t (rows ++ (row ∷ [])) ≡ items_of t rows ++ (filled_after t l place ++ (kept row.sample ∷ []))
    unfolding fillings
    items_more l e =
        items-end t [] rows row
        ∙ ap (λ (l : List Item). items_of t rows ++ l) (good-items ∙ ap (λ (l : Last). filled_after t l place ++ (kept row.sample ∷ [])) e)

    lasts-good : Lasts t (good_of t (rows ++ (row ∷ []))) (last_of (good_of t (rows ++ (row ∷ [])))) (last_of (rows ++ (row ∷ [])))
    lasts-good =
        let itself : up row.second + down row.second ≤ up row.second + down row.second = omega arith in
        rw (more-good, last_end good row, last_end rows row) (a-good (record { before = good; is = refl }) o itself)

    -- none before it: it is for second 0
    module _ (none_yet : good ≡ []) (l : last_of good ≡ none) where
      at_zero : up row.second ≡ 0
      at_zero =
          let h : not (eqb (up row.second) 0) ≡ false = rw (is-good, l) at p.first-here in
          eqb-true (up row.second) 0 (not-false (eqb (up row.second) 0) h)

      first-place : place ≡ 0
      first-place = ap (λ (n : ℕ). n / seconds_of t) at_zero ∙ zero-div (seconds_of t)

      mends-first : Mends t (rows ++ (row ∷ [])) (good_of t (rows ++ (row ∷ []))) (items_of t (rows ++ (row ∷ []))) (next_place t (last_of (good_of t (rows ++ (row ∷ [])))))
      mends-first =
          let before : Mends t rows [] (items_of t rows) 0 = rw (l, none_yet) at so.mends in
          let one : place + 1 ≡ 1 = omega (arith, first-place) in
          let room : 0 < t.places = omega (arith, here.inside, first-place) in
          rw (more-good, items_more none l, next-after, one, none_yet) (begins row p.fair room at_zero before)

    -- one before it: it is for a later place, and what is missing between them is filled
    module _ (g r : Recorded) (i : EndsIn g good) (og : outside t g.second ≡ false) (c : up g.second + down r.second ≤ up r.second + down g.second)
        (l : last_of good ≡ last g) (m : last_of rows ≡ last r) where
      abbrev next : ℕ
      next = place_of t g.second + 1

      not-before : up g.second ≤ up row.second
      not-before =
          let before = on-grid t g.second og in
          let d = lt-false row.second r.second (rw m at p.not_earlier) in
          omega (arith, before.forward, here.forward)

      not_same : up g.second ≡ up row.second → ⊥
      not_same e =
          let before = on-grid t g.second og in
          let same_second : row.second ≡ g.second = eq_of row.second g.second (omega (arith, before.forward, here.forward)) in
          true-false (ap (λ (z : ℤ). among z good) same_second ∙ among-last i) new

      later : next ≤ place
      later =
          let before = on-grid t g.second og in
          elim (dec_le place (place_of t g.second)) [
            | yes h ↦ absurd (not_same (omega (arith, before.exact, here.exact, not-before, mul-le-mul_right (seconds_of t) h)))
            | no h ↦ omega (arith, lt_of_not-le h)
          ]

      abbrev hole : ℕ
      hole = place - next

      short-hole : hole * seconds_of t ≤ 60
      short-hole =
          let h : long_hole t rows place ≡ false = rw is-good at p.small-hole in
          rw l at (ltb-false 60 (missing t rows place * seconds_of t) h)

      up_to : next + hole ≡ place
      up_to = omega (arith, later)

      mends-next : Mends t (rows ++ (row ∷ [])) (good_of t (rows ++ (row ∷ []))) (items_of t (rows ++ (row ∷ []))) (next_place t (last_of (good_of t (rows ++ (row ∷ [])))))
      mends-next =
          let before : Mends t rows good (items_of t rows) next = rw l at so.mends in
          let within : next + hole < t.places = omega (arith, here.inside, up_to) in
          let exact : up row.second ≡ (next + hole) * seconds_of t = here.exact ∙ ap (λ (k : ℕ). k * seconds_of t) (sym up_to) in
          let after : place + 1 ≡ next + hole + 1 = omega (arith, up_to) in
          rw (more-good, items_more (last g) l, next-after, after) (goes_on_lem row hole i p.fair within exact short-hole before)

    stands_good : (gd : List Recorded) (l m : Last) → good ≡ gd → last_of good ≡ l → last_of rows ≡ m → Lasts t gd l m → Stands t (rows ++ (row ∷ []))
    stands_good gd l m eg el em no-good = record { mends = mends-first eg el; lasts = lasts-good }
    stands_good gd l m eg el em (a-good {g = g} {r = r} i og c) = record { mends = mends-next g r (rw eg i) og c el em; lasts = lasts-good }

  -- whichever it is
  stands-new : outside t row.second ≡ false → (b : Bool) → among row.second good ≡ b → Stands t (rows ++ (row ∷ []))
  unfolding is_good recorded_items
  stands-new o true e = stands-dropped as_repeated (rw (o, e)) (rw (o, e))
  stands-new o false e = stands_good o e good (last_of good) (last_of rows) refl refl refl so.lasts

  stands-row : (b : Bool) → outside t row.second ≡ b → Stands t (rows ++ (row ∷ []))
  unfolding is_good recorded_items
  stands-row true o = stands-dropped as_stray (rw o) (rw o)
  stands-row false o = stands-new o (among row.second good) refl

-- ---- lines that are accepted one after the other

abbrev pub StandsSo : SoFar → Type 0
StandsSo nothing = Unit
StandsSo (these h rows) = (first (header_grounds h) ≡ Ok tt) × Stands (grid_of h) rows
StandsSo over = Unit

pub stands-with : (so : SoFar) (entry : Entry) → accepted (ground so entry) ≡ true → StandsSo so → StandsSo (with so entry)
unfolding grounds with
stands-with nothing (E.Header h) a s = (accepted-none (first (header_grounds h)) a, stands-none (grid_of h))
stands-with nothing (E.Recorded row) a s = tt
stands-with nothing E.End a s = tt
stands-with nothing E.Malformed a s = tt
stands-with (these h rows) (E.Header k) a s = s
stands-with (these h rows) (E.Recorded row) a s =
    let p = passes (grid_of h) rows row (accepted-none (first (recorded_grounds (grid_of h) rows row)) a) in
    (s.0, stands-row (grid_of h) rows row s.1 p (outside (grid_of h) row.second) refl)
stands-with (these h rows) E.End a s = tt
stands-with (these h rows) E.Malformed a s = s
stands-with over entry a s = tt

stands-lines : {so last : SoFar} {lines : List (List ℕ)} → StandsSo so → Accepts so lines last → StandsSo last
stands-lines s Ends.none = s
stands-lines {so} s (Ends.more {line = line} a n r) = stands-lines (stands-with so (entry_of line) a s) r

module _ {lines : List (List ℕ)} {h : Header} {rows : List Recorded} (a : Accepts nothing lines (these h rows)) where
  standing : StandsSo (these h rows)
  standing = stands-lines tt a

  pub header-good : first (header_grounds h) ≡ Ok tt
  header-good = standing.0

  -- WHAT WAS PRINTED for them
  pub accepted-mend : Mends (grid_of h) rows (good_of (grid_of h) rows) (items_of (grid_of h) rows) (next_place (grid_of h) (last_of (good_of (grid_of h) rows)))
  accepted-mend = standing.1.mends

-- ---- E

-- no place past the stretch
next-within : {t : Grid} {rows good : List Recorded} {items : List Item} {n : ℕ} → Mends t rows good items n → n ≤ t.places
next-within no_line_lem = omega arith
next-within (drops d m) = next-within m
next-within (begins row f room z m) = omega arith
next-within (goes_on_lem row k i f within e s m) = omega arith

-- the last good line, and how many are missing after it
pub record Closes (t : Grid) (rows good : List Recorded) (n : ℕ) : Type 0 where
  pub g : Recorded
  pub missing : ℕ
  pub lasts : EndsIn g good
  pub up_to : n + missing ≡ t.places
  pub short : missing * seconds_of t ≤ 60
  pub filled : fillings t rows t.places ≡ filled_from t g.sample n missing

module _ (t : Grid) (rows : List Recorded) (so : Stands t rows) (end : first (end_grounds t rows) ≡ Ok tt) where
  abbrev goods : List Recorded
  goods = good_of t rows

  ended : (is_none (last_of goods) ≡ false) × (long_hole t rows t.places ≡ false)
  unfolding end_grounds
  ended =
      let a = passed _ NoFirstSample _ end in
      let b = passed _ HoleTooLong _ a.1 in
      (a.0, b.0)

  closes_by : (gd : List Recorded) (l m : Last) → goods ≡ gd → last_of goods ≡ l → Lasts t gd l m → Closes t rows goods (next_place t (last_of goods))
  unfolding fillings
  closes_by gd l m eg el no-good = true-false (rw el) ended.0
  closes_by gd l m eg el (a-good {g = g} i o c) =
      let next = next_place t (last_of goods) in
      let inside : next ≤ t.places = next-within so.mends in
      record {
        g = g;
        missing = t.places - next;
        lasts = rw eg i;
        up_to = omega arith;
        short = ltb-false 60 (missing t rows t.places * seconds_of t) ended.1;
        filled = rw el;
      }

-- WHAT IS FILLED AT AN ACCEPTED E
pub accepted-close : {lines : List (List ℕ)} {h : Header} {rows : List Recorded} → Accepts nothing lines (these h rows) → accepted (ground (these h rows) E.End) ≡ true
    → Closes (grid_of h) rows (good_of (grid_of h) rows) (next_place (grid_of h) (last_of (good_of (grid_of h) rows)))
unfolding grounds
accepted-close {h = h} {rows = rows} a e =
    let t = grid_of h in
    let so = (standing a).1 in
    closes_by t rows so (accepted-none (first (end_grounds t rows)) e) (good_of t rows) (last_of (good_of t rows)) (last_of rows) refl refl so.lasts
