-- The lines of a block: why they are refused, and how a run stands to what was given after them.
-- Assumes nothing.
use Prim.Native.Nat.{ℕ, zero, suc, ◌≤◌}
use mathlib.Core.Path.{◌≡◌, refl, sym, ap, subst, ◌∙◌}
use mathlib.Core.Bool.{Bool, true, false, not, ◌&&◌}
use mathlib.Core.List.{List, [], ◌++◌}
use native.Mathlib.Omega.{arith}
use borrow.Author.Tests.{not-false, lt-ltb}
use lib.Dec.{eqb, ltb, eqb-suc-zero}
use lib.IntN.{ℤ}
use lib.ListN.{length, length-append}
use Rattle.arithmetic.proofs.Booleans.{true-false, and-swapped}
use Rattle.std.specs.Prelude.{Ok}
use Rattle.vocabulary.specs.declared.refusal.Refusal.TheVariants.{WrongMoment, BadBlockLength}
use Rattle.vocabulary.specs.declared.direction.Direction.TheVariants.{Positive, Negative}
use Rattle.vocabulary.specs.declared.sample.Sample.{Sample}
use Rattle.vocabulary.specs.declared.acceptance.Bounds.{Bounds}
use Rattle.channel.specs.declared.Channel.{Channel}
use Rattle.channel.specs.Start.{Start, fresh, carried}
use Rattle.channel.specs.State.{StandsFor}
use Rattle.channel.specs.Backward.{series_after}
use Rattle.series.specs.Scan.{each}
use Rattle.contracts.specs.declared.books.Books.{Books}
use Rattle.contracts.proofs.Accepted.{passed}
use Rattle.settlement.specs.declared.load.Load.{Load}
use Rattle.settlement.specs.declared.run.Run.{Run}
use Rattle.settlement.specs.Calls.{unbegun}
use Rattle.settlement.specs.Load.{bounds_refusal, setpoint_refusal}
use Rattle.settlement.specs.Run as R
use Rattle.settlement.specs.Run.{with_bounds, with_setpoint}
use Rattle.meaning.specs.Given.{Given, with_start, block_by, with_newest, interval_in, lot_in, setpoint_in}
use Rattle.meaning.specs.Meaning.{untouched, block_size, bounds_ground, setpoint_ground, bounds_grounds, setpoint_grounds}
use Rattle.meaning.proofs.Blocks.{not-not, held_start, LoadMeets, no_block, a_block, some_left, bounds-refused, setpoint-refused, load-begun, load-fewer, past-recalled}
use Rattle.meaning.proofs.Deals.{count_of}
use Rattle.std.proofs.lemmas.List.{nil_from_length}
use Rattle.meaning.proofs.Moments.{none-taken}
use Rattle.meaning.proofs.Proper.{none-sampled}
use Rattle.meaning.proofs.Standing.{BooksMeet, Meets, counted, not-begun, account-deal}

none_is : (n : ℕ) → not (ltb 0 n) ≡ eqb n 0
none_is zero = refl
none_is (suc n) = rw (lt-ltb 0 (suc n) (omega arith), eqb-suc-zero n)

last-first : (a b c : Bool) → (a && b && c) ≡ (b && c && a)
last-first true b c = and-swapped true (b && c)
last-first false b c = and-swapped false (b && c)

module _ (g : Given) (run : Run) (m : Meets g run) where
  unbegun-is : unbegun run.tape.filled run.account.taken run.plan.quarters ≡ eqb (length g.samples) 0
  unbegun-is = sym (not-not (unbegun run.tape.filled run.account.taken run.plan.quarters)) ∙ ap not (not-begun g run m) ∙ none_is (length g.samples)

  untouched-is : R.untouched run ≡ untouched g
  unfolding R.untouched untouched
  untouched-is =
      let p = m.books Positive in
      let n = m.books Negative in
      rw (unbegun-is, count_of run.books.positive g.positives p.sound p.listed, count_of run.books.negative g.negatives n.sound n.listed)
      (last-first (eqb (length g.samples) 0) (eqb (length g.positives) 0) (eqb (length g.negatives) 0))

  pub bounds-ground : (bounds : Bounds) → R.bounds_ground run bounds ≡ bounds_ground g bounds
  unfolding R.bounds_ground bounds_grounds
  bounds-ground bounds = rw untouched-is (bounds-refused g run.load g.start bounds m.load)

  pub setpoint-ground : (s : ℤ) → R.setpoint_ground run s ≡ setpoint_ground g s
  unfolding R.setpoint_ground setpoint_grounds
  setpoint-ground s = rw untouched-is (setpoint-refused g run.load g.start s refl m.load)

  -- where neither a contract nor a sample came, no quarter hour was taken
  no-samples : R.untouched run ≡ true → length g.samples ≡ 0
  no-samples u = none-sampled g (sym untouched-is ∙ u)

  no-early : R.untouched run ≡ true → m.timed.early ≡ []
  no-early u = nil_from_length m.timed.early (omega (arith, no-samples u, ap length m.timed.whole, length-append m.timed.early m.timed.late))

  none_yet : R.untouched run ≡ true → run.account.taken ≡ 0
  none_yet u =
      let l : length g.samples ≤ 0 = omega (arith, no-samples u) in
      none-taken (interval_in g) run.tape.filled run.account.taken (rw (counted g run m) at l)

-- another start changes no contract
books-started : (g : Given) (start : Start) (books : Books) → BooksMeet g books → BooksMeet (with_start start g) books
books-started g start books b Positive = b Positive
books-started g start books b Negative = b Negative

-- a block goes only into a channel that has followed nothing
module _ (g : Given) (run : Run) (m : Meets g run) (u : R.untouched run ≡ true) (start : Start) (past : Channel) (load : Load) where
  meets-started : StandsFor (interval_in g) (lot_in g) (held_start start) past [] → LoadMeets (block_size g) start load
      → Meets (with_start start g) (record { plan = run.plan; books = run.books; past = past; load = load; tape = run.tape; account = run.account })
  unfolding series_after each
  meets-started r l =
      let t = m.timed in
      record {
        timed =
            record {
              early = [];
              late = t.late;
              whole = t.whole ∙ ap (λ (e : List Sample). e ++ t.late) (no-early g run m u);
              long = ap length (sym (no-early g run m u)) ∙ t.long;
              plan = t.plan;
              past = r;
              tape = t.tape;
            };
        load = l;
        filled = λ some. absurd (omega (arith, no-samples g run m u));
        books = books-started g start run.books m.books;
        account = account-deal g (with_start start g) run.account m.account (none_yet g run m u);
      }

module _ (g : Given) (run : Run) (m : Meets g run) where
  -- the channel before its first sample
  past-empty : R.untouched run ≡ true → StandsFor (interval_in g) (lot_in g) (held_start g.start) run.past []
  unfolding series_after each
  past-empty u =
      subst (λ (early : List Sample). StandsFor (interval_in g) (lot_in g) (held_start g.start) run.past (series_after [] (each setpoint_in early))) (no-early g run m u) m.timed.past

  module _ (bounds : Bounds) (e : R.bounds_ground run bounds ≡ Ok tt) where
    bounds-early : R.untouched run ≡ true
    unfolding R.bounds_ground bounds_refusal
    bounds-early = not-false (R.untouched run) (passed (not (R.untouched run)) WrongMoment _ e).0

    no-block-yet : run.load.begun ≡ false
    unfolding R.bounds_ground bounds_refusal
    no-block-yet = (passed run.load.begun WrongMoment _ (passed (not (R.untouched run)) WrongMoment _ e).1).0

    pub meets-bounds : Meets (with_start (carried (block_by bounds)) g) (with_bounds run bounds)
    unfolding with_bounds
    meets-bounds =
        meets-started g run m bounds-early (carried (block_by bounds)) run.past _
        (rw (fresh-then g.start m.load) at (past-empty bounds-early))
        (rw m.timed.past.interval (load-begun (interval_in g) bounds))
      where
        fresh-then : (start : Start) → LoadMeets (block_size g) start run.load → held_start start ≡ fresh
        fresh-then fresh l = refl
        fresh-then (carried b) (a_block y n o v) = true-false y no-block-yet

  module _ (s : ℤ) (e : R.setpoint_ground run s ≡ Ok tt) where
    setpoint-early : R.untouched run ≡ true
    unfolding R.setpoint_ground setpoint_refusal
    setpoint-early = not-false (R.untouched run) (passed (not (R.untouched run)) WrongMoment _ e).0

    block-begun : run.load.begun ≡ true
    unfolding R.setpoint_ground setpoint_refusal
    block-begun = not-false run.load.begun (passed (not run.load.begun) WrongMoment _ (passed (not (R.untouched run)) WrongMoment _ e).1).0

    one_left : eqb run.load.left 0 ≡ false
    unfolding R.setpoint_ground setpoint_refusal
    one_left =
        let p1 = passed (not (R.untouched run)) WrongMoment _ e in
        let p2 = passed (not run.load.begun) WrongMoment _ p1.1 in
        (passed (eqb run.load.left 0) BadBlockLength _ p2.1).0

    pub meets-setpoint : Meets (with_start (with_newest g.start s) g) (with_setpoint run s)
    unfolding with_setpoint
    meets-setpoint = recalling g.start m.load (past-empty setpoint-early)
      where
        recalling : (start : Start) → LoadMeets (block_size g) start run.load → StandsFor (interval_in g) (lot_in g) (held_start start) run.past []
            → Meets (with_start (with_newest start s) g) (with_setpoint run s)
        recalling fresh (no_block y z) r = true-false block-begun y
        recalling (carried b) (a_block y n o v) r =
            meets-started g run m setpoint-early (with_newest (carried b) s) _ _ (past-recalled s b run.load o v r)
            (load-fewer s (a_block {b = b} {load = run.load} y n o v) (some_left run.load.left one_left))
