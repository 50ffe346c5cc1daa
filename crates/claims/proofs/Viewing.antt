-- An idle part adds nothing to a sum or a slice of any quantity but the actual, so it can be left out; and how the others are written down, sample by sample.
-- Assumes nothing.
use Rattle.std.proofs.Common.{◌≡◌, ℕ, zero, suc, ◌+◌, ◌-◌, ◌*◌, ◌%◌, ◌^◌, ◌<◌, ◌≤◌, Bool, true, false, cond, ◌&&◌, ◌||◌, eqb, ltb, List, [], ◌∷◌, ◌++◌, length, get_or, take, set, pos, sym, refl, ◌∙◌, true≢false, append-nil, add-zero, zero-add, add-one, arith, length-append, length-set, take_all, take-suc-set, w32, SFits, below_none, below_more, ltb-false, ltb-true, le-ltb, lt-ltb, eq-eqb, eqb-true}
use native.Mathlib.Nat.{mod-add-mod}
use lib.Seq.{take-set-le}
use Rattle.arithmetic.specs.Whole.{least_of, most_of}
use Rattle.arithmetic.proofs.Booleans.{both}
use Rattle.series.specs.Sums.{over_of, sum_of}
use Rattle.series.specs.Slices.{slice_of}
use Rattle.series.specs.Scan.{each}
use Rattle.series.specs.Cuts.{Cut, cuts_of, last_of, sum_held, pieces_of}
use Rattle.series.proofs.Each.{each-end, each_same}
use Rattle.series.proofs.Scanned.{outputs-length}
use Rattle.series.proofs.Sums.{over-snoc}
use Rattle.vocabulary.specs.declared.direction.Direction.{Direction}
use Rattle.values.specs.declared.part.Part.{Part}
use Rattle.values.specs.declared.value.Quantity.{Quantity}
use Rattle.values.specs.declared.value.Quantity.TheVariants.{Setpoint, Actual, Acceptance, Surplus, Shortfall, UnderDelivery, Inner, Floor, Covered, Kept}
use Rattle.values.specs.Part.{amount_of, acceptance_of, floor_of, ceiling_of, covered_of, surplus_of}
use Rattle.claims.specs.Powers.{Samples, next, powers_of}
use Rattle.claims.specs.Views.{part_at, parts_of, idle_of, busy_of, falls_of, shorts_of, short_of, sums_of, sums_by}
use Rattle.claims.specs.declared.view.Seen.{Seen}
use Rattle.claims.specs.declared.energies.Sums.{Sums}
use Rattle.claims.specs.Room.{Small, Fitting, Faced, Roomy, Written, Viewed}
use Rattle.claims.proofs.Joining.{along}
use Rattle.claims.proofs.PowerLaws.{powers-are, powers-delivered}
use Rattle.claims.proofs.Shortfalls.{shorts-pieces}

-- ---- nothing on a part

-- each quantity but the actual, which neither setpoint nor channel limits
abbrev limited : Quantity → Bool
limited Setpoint = true
limited Actual = false
limited Acceptance = true
limited Surplus = true
limited Shortfall = true
limited UnderDelivery = true
limited Inner = true
limited Floor = true
limited Covered = true
limited Kept = true

-- where the channel does not reach a part or nothing is delivered on it, nothing is accepted, and there is no surplus
unreached : (p : Part) → p.outer.0 ≡ 0 → (acceptance_of p ≡ 0) × (surplus_of p ≡ 0)
unfolding acceptance_of surplus_of least_of
unreached p o = (omega arith, rw (eq-eqb p.outer.0 0 o))

undelivered : (p : Part) → p.actual ≡ 0 → (acceptance_of p ≡ 0) × (surplus_of p ≡ 0)
unfolding acceptance_of surplus_of least_of
undelivered p a = (omega arith, go (eqb p.outer.0 0))
  where
    go : (t : Bool) → cond t 0 (least_of (p.actual * 5400) (ceiling_of p) - p.outer.0) ≡ 0
    go true = refl
    go false = omega arith

unaccepted : (p : Part) (t : Bool) → eqb p.outer.0 0 ≡ t → (t || eqb p.actual 0) ≡ true → (acceptance_of p ≡ 0) × (surplus_of p ≡ 0)
unaccepted p true o e = unreached p (eqb-true p.outer.0 0 o)
unaccepted p false o e = undelivered p (eqb-true p.actual 0 e)

no-floor : (p : Part) → p.inner.0 ≡ 0 → floor_of p ≡ 0
unfolding floor_of least_of
no-floor p i = omega arith

least-none : (m n : ℕ) → m ≡ 0 → least_of m n ≡ 0
unfolding least_of
least-none m n e = omega arith

nothing : (q : Quantity) (p : Part) → limited q ≡ true → p.setpoint ≡ 0 → (acceptance_of p ≡ 0) × (surplus_of p ≡ 0) → p.inner.0 ≡ 0 → amount_of q p ≡ 0
unfolding most_of
nothing Setpoint p l s a i = omega arith
nothing Actual p l s a i = absurd (true≢false (sym l))
nothing Acceptance p l s a i = a.0
nothing Surplus p l s a i = a.1
nothing Shortfall p l s a i = omega arith
nothing UnderDelivery p l s a i = omega (arith, no-floor p i)
nothing Inner p l s a i = i
nothing Floor p l s a i = no-floor p i
nothing Covered p l s a i = omega (arith, a.0, no-floor p i)
nothing Kept p l s a i = least-none p.inner.0 (covered_of p) i

idle-nothing : (q : Quantity) (p : Part) → limited q ≡ true → idle_of p ≡ true → amount_of q p ≡ 0
unfolding idle_of
idle-nothing q p l e =
    let one = both (eqb p.setpoint 0) ((eqb p.outer.0 0 || eqb p.actual 0) && eqb p.inner.0 0) e in
    let two = both (eqb p.outer.0 0 || eqb p.actual 0) (eqb p.inner.0 0) one.1 in
    nothing q p l (eqb-true p.setpoint 0 one.0) (unaccepted p (eqb p.outer.0 0) refl two.0) (eqb-true p.inner.0 0 two.1)

-- what is 0 for a power of 0 sums to the same with the idle parts and without them
module _ (f : ℕ → ℕ) (z : f 0 ≡ 0) (q : Quantity) (limit : limited q ≡ true) where
  one-idle : (b : Bool) (p : Part) (ps : List Part) → idle_of p ≡ b → over_of f (each (amount_of q) (busy_of ps)) ≡ over_of f (each (amount_of q) ps)
      → over_of f (each (amount_of q) (cond b (busy_of ps) (p ∷ busy_of ps))) ≡ over_of f (each (amount_of q) (p ∷ ps))
  unfolding over_of each
  one-idle true p ps e same = rw (idle-nothing q p limit e, z) (omega (arith, same))
  one-idle false p ps e same = rw same

  pub busy-sum : (ps : List Part) → over_of f (each (amount_of q) (busy_of ps)) ≡ over_of f (each (amount_of q) ps)
  unfolding busy_of
  busy-sum [] = refl
  busy-sum (p ∷ ps) = one-idle (idle_of p) p ps refl (busy-sum ps)

slice-none : (low high : ℕ) → slice_of low high 0 ≡ 0
unfolding slice_of least_of
slice-none low high = omega arith

above-none : (low : ℕ) → 0 - low ≡ 0
above-none low = omega arith

-- so the pieces are those of all the samples
module _ (d : Direction) (x : Samples) (q : Quantity) (limit : limited q ≡ true) where
  abbrev busy : List ℕ
  busy = each (amount_of q) (busy_of (parts_of d x))

  same_sum : (f : ℕ → ℕ) → f 0 ≡ 0 → over_of f busy ≡ over_of f (powers_of d x q)
  same_sum f z = rw (← powers-are d x q) (busy-sum f z q limit (parts_of d x))

  sum-viewed : sum_of busy ≡ sum_of (powers_of d x q)
  sum-viewed = same_sum (λ v. v) refl

  pieces-viewed : (limits : List ℕ) → pieces_of limits busy ≡ pieces_of limits (powers_of d x q)
  unfolding pieces_of
  pieces-viewed limits =
      let slices : each (sum_held busy) (cuts_of limits) ≡ each (sum_held (powers_of d x q)) (cuts_of limits) =
      each_same (sum_held busy) (sum_held (powers_of d x q)) (λ (c : Cut). rw (same_sum (slice_of c.low c.high) (slice-none c.low c.high))) (cuts_of limits) in
      rw (slices, same_sum (λ v. v - last_of limits) (above-none (last_of limits)))

-- ---- one part more, or one that is left out

after : (b : Bool) (p : Part) (l m : List Part) → cond b (l ++ m) (p ∷ (l ++ m)) ≡ cond b l (p ∷ l) ++ m
after true p l m = refl
after false p l m = refl

busy-end : (l : List Part) (i : ℕ) (p : Part) → i < length l → busy_of (take (suc i) l) ≡ busy_of (take i l) ++ cond (idle_of (get_or l i p)) [] (get_or l i p ∷ [])
unfolding busy_of
busy-end [] i p h = absurd (omega arith)
busy-end (x ∷ l) zero p h = refl
busy-end (x ∷ l) (suc i) p h =
    rw (busy-end l i p (omega arith)) (after (idle_of x) x (busy_of (take i l)) (cond (idle_of (get_or l i p)) [] (get_or l i p ∷ [])))

falls : Part → Bool
falls p = ltb (amount_of Kept p) (amount_of Inner p)

-- what is kept, the smaller of the inner bound and what is covered, falls short where what is covered does, and is the same there
least-falls : (inner covered : ℕ) (b : Bool) → ltb covered inner ≡ b → b ≡ ltb (least_of inner covered) inner
unfolding least_of
least-falls inner covered true e = sym (lt-ltb (least_of inner covered) inner (omega (arith, ltb-true covered inner e)))
least-falls inner covered false e = sym (le-ltb (least_of inner covered) inner (omega (arith, ltb-false covered inner e)))

least-covered : (inner covered : ℕ) → ltb (least_of inner covered) inner ≡ true → covered ≡ least_of inner covered
unfolding least_of
least-covered inner covered e = omega (arith, ltb-true (least_of inner covered) inner e)

covered-falls : (p : Part) → ltb (amount_of Covered p) (amount_of Inner p) ≡ falls p
unfolding falls
covered-falls p = least-falls (amount_of Inner p) (amount_of Covered p) (ltb (amount_of Covered p) (amount_of Inner p)) refl

covered-kept : (p : Part) → falls p ≡ true → amount_of Covered p ≡ amount_of Kept p
unfolding falls
covered-kept p = least-covered (amount_of Inner p) (amount_of Covered p)

shorts-end : (ps : List Part) (p : Part) → shorts_of (ps ++ (p ∷ [])) ≡ shorts_of ps ++ cond (falls p) (p ∷ []) []
unfolding shorts_of falls
shorts-end [] p = refl
shorts-end (x ∷ ps) p = rw (shorts-end ps p) (joined (falls x) x (shorts_of ps) (cond (falls p) (p ∷ []) []))
  where
    joined : (b : Bool) (x : Part) (l m : List Part) → cond b (x ∷ (l ++ m)) (l ++ m) ≡ cond b (x ∷ l) l ++ m
    joined true x l m = refl
    joined false x l m = refl

-- ---- parts written down

write-one : (f : Part → ℕ) (ps : List Part) (p : Part) (l : List ℕ) (count : ℕ) → count < length l → take count l ≡ each f ps
    → take (count + 1) (set l count (f p)) ≡ each f (ps ++ (p ∷ []))
write-one f ps p l count h e = rw (add-one, take-suc-set l count (f p) h, e, each-end f ps p)

-- a power of a part that falls short is written down, and another is written over
write-short : (f : Part → ℕ) (ps : List Part) (p : Part) (v : ℕ) (l : List ℕ) (short : ℕ) (b : Bool) → (b ≡ true → v ≡ f p) → short < length l
    → take short l ≡ each f ps → take (short + cond b 1 0) (set l short v) ≡ each f (ps ++ cond b (p ∷ []) [])
write-short f ps p v l short true same h e = rw (same refl) (write-one f ps p l short h e)
write-short f ps p v l short false same h e = rw (add-zero short, append-nil, take-set-le short l short v (omega arith)) e

fall-one : (b : Bool) → cond b 1 0 ≤ 1
fall-one true = omega arith
fall-one false = omega arith

pub falls-one : (covered inner : ℕ) → falls_of covered inner ≤ 1
falls-one covered inner = fall-one (ltb covered inner)

add-up : (f : Part → ℕ) (ps : List Part) (p : Part) (sum : ℕ) → sum ≡ sum_of (each f ps) % 2 ^ 64
    → (sum + f p) % 2 ^ 64 ≡ sum_of (each f (ps ++ (p ∷ []))) % 2 ^ 64
add-up f ps p sum e = rw (e, each-end f ps p, over-snoc (λ w. w) (each f ps) (f p)) (mod-add-mod (sum_of (each f ps)) (2 ^ 64) (f p))

module _ (asked accepted required inner kept : List ℕ) where
  pub written_none : Written [] asked accepted required inner kept 0 0 0 0
  unfolding each over_of shorts_of
  written_none =
      record { counted = refl; fewer = omega arith; asked = refl; accepted = refl; required = refl; inner = refl; kept = refl; surplus = refl; under = refl }

  module _ (ps : List Part) (p : Part) (count short surplus under : ℕ) (room : Roomy asked accepted required inner kept) (h : count < 900)
      (w : Written ps asked accepted required inner kept count short surplus under) where
    written-more : Written (ps ++ (p ∷ [])) (set asked count (amount_of Setpoint p))
        (set accepted count (amount_of Acceptance p)) (set required count (amount_of Floor p)) (set inner short (amount_of Inner p))
        (set kept short (amount_of Covered p)) (count + 1) (short + falls_of (amount_of Covered p) (amount_of Inner p))
        ((surplus + amount_of Surplus p) % 2 ^ 64) ((under + amount_of UnderDelivery p) % 2 ^ 64)
    written-more =
        let spot : short < 900 = omega (arith, w.fewer) in
        record {
          counted = rw (length-append ps (p ∷ []), w.counted);
          fewer = omega (arith, w.fewer, falls-one (amount_of Covered p) (amount_of Inner p));
          asked = write-one (amount_of Setpoint) ps p asked count (omega (arith, room.asked)) w.asked;
          accepted = write-one (amount_of Acceptance) ps p accepted count (omega (arith, room.accepted)) w.accepted;
          required = write-one (amount_of Floor) ps p required count (omega (arith, room.required)) w.required;
          inner =
              rw (covered-falls p, shorts-end ps p)
              (write-short (amount_of Inner) (shorts_of ps) p (amount_of Inner p) inner short (falls p) (λ f. refl) (omega (arith, spot, room.inner)) w.inner);
          kept =
              rw (covered-falls p, shorts-end ps p)
              (write-short (amount_of Kept) (shorts_of ps) p (amount_of Covered p) kept short (falls p) (covered-kept p) (omega (arith, spot, room.kept)) w.kept);
          surplus = add-up (amount_of Surplus) ps p surplus w.surplus;
          under = add-up (amount_of UnderDelivery) ps p under w.under;
        }

    room-more : (v1 v2 v3 v4 v5 : ℕ)
        → Roomy (set asked count v1) (set accepted count v2) (set required count v3) (set inner short v4) (set kept short v5)
    room-more v1 v2 v3 v4 v5 =
        record {
          asked = length-set asked count v1 ∙ room.asked;
          accepted = length-set accepted count v2 ∙ room.accepted;
          required = length-set required count v3 ∙ room.required;
          inner = length-set inner short v4 ∙ room.inner;
          kept = length-set kept short v5 ∙ room.kept;
        }

-- ---- the samples gone through

module _ (d : Direction) (x : Samples) (asked accepted required inner kept : List ℕ) where
  pub viewed-none : Roomy asked accepted required inner kept → Viewed d x asked accepted required inner kept 0 0 0 0 0
  unfolding busy_of
  viewed-none room =
      record {
        room = room;
        few = omega arith;
        written = written_none asked accepted required inner kept;
        fitting = below_none (λ k. SFits w32 (get_or x.setpoints k (pos 0)) × SFits w32 (get_or x.actuals k (pos 0)));
      }

  module _ (p : Part) (count short surplus under i : ℕ) (h : i < length x.setpoints) (f : Faced d x i p)
      (v : Viewed d x asked accepted required inner kept count short surplus under i) where
    fitting-more : Fitting x.setpoints x.actuals (i + 1)
    fitting-more =
        below_more (λ k. SFits w32 (get_or x.setpoints k (pos 0)) × SFits w32 (get_or x.actuals k (pos 0))) i v.fitting (f.setpoint, f.actual)

    -- the part at the place
    here : get_or (parts_of d x) i p ≡ p
    here = along (part_at d x) 0 x.setpoints i (pos 0) p h ∙ rw (zero-add i) (sym f.part)

    next-part : busy_of (take (i + 1) (parts_of d x)) ≡ busy_of (take i (parts_of d x)) ++ cond (idle_of p) [] (p ∷ [])
    next-part = rw (add-one) (busy-end (parts_of d x) i p (omega (arith, outputs-length next (part_at d x) 0 x.setpoints)) ∙ rw here)

    pub viewed-idle : idle_of p ≡ true → Viewed d x asked accepted required inner kept count short surplus under (i + 1)
    viewed-idle e =
        record {
          room = v.room;
          few = omega (arith, v.few);
          written = rw (next-part, e, append-nil) v.written;
          fitting = fitting-more;
        }

    pub viewed-more : length x.setpoints ≤ 900 → idle_of p ≡ false
        → Viewed d x (set asked count (amount_of Setpoint p)) (set accepted count (amount_of Acceptance p))
        (set required count (amount_of Floor p)) (set inner short (amount_of Inner p)) (set kept short (amount_of Covered p)) (count + 1)
        (short + falls_of (amount_of Covered p) (amount_of Inner p)) ((surplus + amount_of Surplus p) % 2 ^ 64) ((under + amount_of UnderDelivery p) % 2 ^ 64) (i + 1)
    viewed-more few e =
        let fits : count < 900 = omega (arith, v.few) in
        record {
          room = room-more asked accepted required inner kept (busy_of (take i (parts_of d x))) p count short surplus under v.room fits v.written _ _ _ _ _;
          few = omega (arith, v.few);
          written =
              rw (next-part, e)
              (written-more asked accepted required inner kept (busy_of (take i (parts_of d x))) p count short surplus under v.room fits v.written);
          fitting = fitting-more;
        }

  module _ (count short surplus under : ℕ) (v : Viewed d x asked accepted required inner kept count short surplus under (length x.setpoints)) where
    -- all of them
    all-written : Written (busy_of (parts_of d x)) asked accepted required inner kept count short surplus under
    all-written =
        let all : take (length x.setpoints) (parts_of d x) ≡ parts_of d x =
        take_all (length x.setpoints) (parts_of d x) (omega (arith, outputs-length next (part_at d x) 0 x.setpoints)) in
        rw all at v.written

-- the sums by what was written down are those of the powers
module _ (d : Direction) (x : Samples) (limits asked accepted required inner kept : List ℕ) (seen : Seen) (seconds : ℕ)
    (small : (q : Quantity) → Small seconds (powers_of d x q)) where
  -- what is short is so without the samples that do not fall short
  short-viewed : short_of (pieces_of limits (each (amount_of Inner) (shorts_of (busy_of (parts_of d x))))) (pieces_of limits (each (amount_of Kept) (shorts_of (busy_of (parts_of d x)))))
      ≡ short_of (pieces_of limits (powers_of d x Inner)) (pieces_of limits (powers_of d x Kept))
  short-viewed =
      shorts-pieces limits (busy_of (parts_of d x)) (rw (sum-viewed d x Inner refl) (small Inner).plain) (rw (sum-viewed d x Kept refl) (small Kept).plain)
      ∙ rw (pieces-viewed d x Inner refl limits, pieces-viewed d x Kept refl limits)

  sums-viewed : length x.actuals ≡ length x.setpoints
      → Viewed d x asked accepted required inner kept seen.count seen.short seen.surplus seen.under_delivery (length x.setpoints)
      → sums_by d limits seen x.actuals asked accepted required inner kept ≡ sums_of (powers_of d x) limits
  unfolding sums_by sums_of
  sums-viewed level v =
      let w = all-written d x asked accepted required inner kept seen.count seen.short seen.surplus seen.under_delivery v in
      rw (
        powers-delivered d x level,
        w.asked,
        w.accepted,
        w.required,
        w.inner,
        w.kept,
        w.surplus,
        w.under,
        pieces-viewed d x Setpoint refl limits,
        pieces-viewed d x Acceptance refl limits,
        pieces-viewed d x Floor refl limits,
        short-viewed,
        sum-viewed d x Surplus refl,
        sum-viewed d x UnderDelivery refl,
      )

  -- at limits that are taken from a longer list
  pub sums-listed : (cuts : List ℕ) (sums : Sums) → length x.actuals ≡ length x.setpoints
      → Viewed d x asked accepted required inner kept seen.count seen.short seen.surplus seen.under_delivery (length x.setpoints)
      → cuts ≡ limits → sums ≡ sums_by d cuts seen x.actuals asked accepted required inner kept → sums ≡ sums_of (powers_of d x) limits
  sums-listed cuts sums level v at e = rw (e, at) (sums-viewed level v)
