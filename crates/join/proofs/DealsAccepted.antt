-- The lines of contracts that are in range, cheapest first and no identifier twice, are accepted one after the other.
-- Assumes nothing.
use Prim.Native.Nat.{ℕ, ◌+◌, ◌≤◌, ◌<◌}
use mathlib.Core.Path.{◌≡◌, refl, ap}
use mathlib.Core.Bool.{true, false, not}
use mathlib.Core.List.{List, [], ◌∷◌, ◌++◌, append_assoc, append-nil}
use native.Mathlib.Omega.{arith}
use borrow.Author.Tests.{not-true, le-ltb, lt-leb}
use lib.IntN.{ℤ, pos, negsuc}
use lib.ListN.{length, length-append}
use lib.Signed.{lt_z}
use Rattle.arithmetic.specs.Whole.{up, within_of}
use Rattle.arithmetic.proofs.Booleans.{both, neither}
use Rattle.arithmetic.proofs.Signed.{true-le, up_pos, down_pos}
use Rattle.vocabulary.specs.Interval.{windows_of}
use Rattle.vocabulary.specs.Refusals.{accepted}
use Rattle.vocabulary.specs.declared.direction.Direction.{Direction}
use Rattle.vocabulary.specs.declared.direction.Direction.TheVariants.{Positive, Negative}
use Rattle.vocabulary.specs.declared.header.Header.{Header}
use Rattle.vocabulary.specs.declared.contract.Contract.{Contract}
use Rattle.channel.specs.Start.{Start}
use Rattle.contracts.specs.Identifier.{same_bytes}
use Rattle.contracts.proofs.Identifiers.{same-sym}
use Rattle.contracts.specs.Book.{award_in_range}
use Rattle.settlement.specs.Calls.{interval_of}
use Rattle.reading.specs.Line.{identifier_of}
use Rattle.reading.specs.declared.Line.TheVariants as L
use Rattle.meaning.specs.Given.{Deal, Given, deals_in, with_deal}
use Rattle.meaning.specs.Meaning.{these, lacking, lacks, present, sum_of_awards, below_last, contract_grounds, grounds, ground, after, deal_of}
use Rattle.meaning.specs.Endings.{Accepts, none, FairDeal, Each, of_more, ascending, distinct, FairList}
use Rattle.join.specs.Says.{SaysDeals, no_more, positive, negative}
use Rattle.join.proofs.Accepting.{accept}

-- ---- a contract after some, and before others, of a fair list

-- what its line is held to, after those before it
record Next (done : List Deal) (x : Deal) : Type 0 where
  room : length done < 32
  sum : sum_of_awards done + x.award ≤ 2000000
  order : below_last x.price done ≡ false
  fair : FairDeal x

sum-split : (a b : List Deal) → sum_of_awards (a ++ b) ≡ sum_of_awards a + sum_of_awards b
unfolding sum_of_awards
sum-split [] b = omega arith
sum-split (x ∷ a) b = let e : sum_of_awards (a ++ b) ≡ sum_of_awards a + sum_of_awards b = sum-split a b in omega arith

not_below : (a b : List Deal) (x : Deal) → ascending (a ++ (x ∷ b)) ≡ true → below_last x.price a ≡ false
unfolding ascending below_last
not_below [] b x e = refl
not_below (y ∷ []) b x e = not-true (lt_z x.price y.price) (both (not (lt_z x.price y.price)) (ascending (x ∷ b)) e).0
not_below (y ∷ (z ∷ a)) b x e = not_below (z ∷ a) b x (both (not (lt_z z.price y.price)) (ascending (z ∷ (a ++ (x ∷ b)))) e).1

each-one : {X : Type 0} {P : X → Type 0} (a b : List X) (x : X) → Each P (a ++ (x ∷ b)) → P x
each-one [] b x (of_more p ps) = p
each-one (y ∷ a) b x (of_more p ps) = each-one a b x ps

next_fits : (done rest : List Deal) (x : Deal) → FairList (done ++ (x ∷ rest)) → Next done x
unfolding sum_of_awards
next_fits done rest x f =
    record {
      room = omega (arith, f.few, length-append done (x ∷ rest));
      sum = omega (arith, f.sum, sum-split done (x ∷ rest));
      order = not_below done rest x f.order;
      fair = each-one done rest x f.deals;
    }

-- ---- its identifier is none of theirs

-- not among some and others, so not among some, nor among others
absent-first : (s : List ℕ) (a b : List Deal) → present s (a ++ b) ≡ false → present s a ≡ false
unfolding present
absent-first s [] b e = refl
absent-first s (x ∷ a) b e =
    let n = neither (same_bytes x.identifier s) (present s (a ++ b)) e in
    rw (n.0, absent-first s a b n.1)

absent-last : (s : List ℕ) (a b : List Deal) → present s (a ++ b) ≡ false → present s b ≡ false
unfolding present
absent-last s [] b e = e
absent-last s (x ∷ a) b e = absent-last s a b (neither (same_bytes x.identifier s) (present s (a ++ b)) e).1

not-before : (a b : List Deal) (x : Deal) → distinct (a ++ (x ∷ b)) ≡ true → present x.identifier a ≡ false
unfolding distinct present
not-before [] b x e = refl
not-before (y ∷ a) b x e =
    let t = both (not (present y.identifier (a ++ (x ∷ b)))) (distinct (a ++ (x ∷ b))) e in
    let later : present y.identifier (x ∷ b) ≡ false = absent-last y.identifier a (x ∷ b) (not-true (present y.identifier (a ++ (x ∷ b))) t.0) in
    let other : same_bytes x.identifier y.identifier ≡ false = (neither (same_bytes x.identifier y.identifier) (present y.identifier b) later).0 in
    rw (same-sym y.identifier x.identifier, other, not-before a b x t.1)

not_after : (a b : List Deal) (x : Deal) → distinct (a ++ (x ∷ b)) ≡ true → present x.identifier b ≡ false
unfolding distinct
not_after [] b x e = not-true (present x.identifier b) (both (not (present x.identifier b)) (distinct b) e).0
not_after (y ∷ a) b x e = not_after a b x (both (not (present y.identifier (a ++ (x ∷ b)))) (distinct (a ++ (x ∷ b))) e).1

-- ---- so its line is accepted

award-fits : (z : ℤ) → 1 ≤ up z → up z ≤ 2000000 → award_in_range z ≡ true
unfolding award_in_range within_of up
award-fits (pos n) l m =
    rw (true-le (pos 1) (pos n) (omega (arith, up_pos 1, up_pos n, down_pos 1, down_pos n)), true-le (pos n) (pos 2000000) (omega (arith, up_pos n, up_pos 2000000, down_pos n, down_pos 2000000)))
award-fits (negsuc n) l m = absurd (omega arith)

deal-accepted : (g : Given) (c : Contract) (identifier : List ℕ) → g.samples ≡ [] → lacks g ≡ false → Next (deals_in c.direction g) (deal_of c identifier)
    → present identifier g.positives ≡ false → present identifier g.negatives ≡ false → accepted (ground (these g) identifier (L.Contract c)) ≡ true
unfolding grounds contract_grounds
deal-accepted g c identifier s l n p m =
    rw (
      le-ltb 0 (length g.samples) (rw s (omega arith)),
      lt-leb 32 (length (deals_in c.direction g)) n.room,
      n.fair.named,
      p,
      m,
      award-fits c.award n.fair.some (omega (arith, n.sum)),
      le-ltb 2000000 (sum_of_awards (deals_in c.direction g) + up c.award) n.sum,
      n.fair.priced,
      n.order,
      l,
    )

-- ---- one after the other, after a header and a start that lacks nothing

no_end : (c : Contract) → L.Contract c ≡ L.End → ⊥
no_end c e = cc

module _ (header : Header) (start : Start) (full : lacking start (windows_of (interval_of (up header.interval))).to ≡ false) where
  -- with the contracts so far
  abbrev pub dealt : List Deal → List Deal → Given
  dealt ps ns = record { header = header; start = start; positives = ps; negatives = ns; samples = [] }

  full-dealt : (ps ns : List Deal) → lacks (dealt ps ns) ≡ false
  unfolding lacks
  full-dealt ps ns = full

  -- a contract by its direction
  module _ (ps ns : List Deal) (c : Contract) (identifier : List ℕ) (d : Direction) (e : c.direction ≡ d) where
    after-deal : after (these (dealt ps ns)) identifier (L.Contract c) ≡ these (with_deal d (deal_of c identifier) (dealt ps ns))
    unfolding after
    after-deal = ap (λ (x : Direction). these (with_deal x (deal_of c identifier) (dealt ps ns))) e

    accepted-by : present identifier ps ≡ false → present identifier ns ≡ false → Next (deals_in d (dealt ps ns)) (deal_of c identifier)
        → accepted (ground (these (dealt ps ns)) identifier (L.Contract c)) ≡ true
    accepted-by p m n = deal-accepted (dealt ps ns) c identifier refl (full-dealt ps ns) (rw e n) p m

  -- THE CONTRACTS' LINES, in whatever way the two directions are mixed
  pub deals-accepted : (ps ns : List Deal) {ps' ns' : List Deal} {lines : List (List ℕ)} → SaysDeals lines ps' ns' → FairList (ps ++ ps') → FairList (ns ++ ns')
      → distinct ((ps ++ ps') ++ (ns ++ ns')) ≡ true → Accepts (these (dealt ps ns)) lines (these (dealt (ps ++ ps') (ns ++ ns')))
  deals-accepted ps ns no_more f g d = rw (append-nil ps, append-nil ns) none
  deals-accepted ps ns {ns' = ns'} (positive {line} {lines} {ps = ps'} c e p r) f g d =
      let x = deal_of c (identifier_of line) in
      let longer : (ps ++ (x ∷ [])) ++ ps' ≡ ps ++ (x ∷ ps') = append_assoc ps (x ∷ []) ps' in
      let named : distinct (ps ++ (x ∷ (ps' ++ (ns ++ ns')))) ≡ true = rw (append_assoc ps (x ∷ ps') (ns ++ ns')) at d in
      let others = absent-first x.identifier ns ns' (absent-last x.identifier ps' (ns ++ ns') (not_after ps (ps' ++ (ns ++ ns')) x named)) in
      accept (these (dealt ps ns)) line (L.Contract c) e
      (accepted-by ps ns c (identifier_of line) Positive p (not-before ps (ps' ++ (ns ++ ns')) x named) others (next_fits ps ps' x f)) (no_end c)
      (rw (after-deal ps ns c (identifier_of line) Positive p, ← longer) (deals-accepted (ps ++ (x ∷ [])) ns r (rw longer f) g (rw longer d)))
  deals-accepted ps ns {ps' = ps'} (negative {line} {lines} {ns = ns'} c e p r) f g d =
      let x = deal_of c (identifier_of line) in
      let longer : (ns ++ (x ∷ [])) ++ ns' ≡ ns ++ (x ∷ ns') = append_assoc ns (x ∷ []) ns' in
      let named : distinct (((ps ++ ps') ++ ns) ++ (x ∷ ns')) ≡ true = rw (append_assoc (ps ++ ps') ns (x ∷ ns')) d in
      let before = not-before ((ps ++ ps') ++ ns) ns' x named in
      let others = absent-first x.identifier ps ps' (absent-first x.identifier (ps ++ ps') ns before) in
      accept (these (dealt ps ns)) line (L.Contract c) e
      (accepted-by ps ns c (identifier_of line) Negative p others (absent-last x.identifier (ps ++ ps') ns before) (next_fits ns ns' x g)) (no_end c)
      (rw (after-deal ps ns c (identifier_of line) Negative p, ← longer) (deals-accepted ps (ns ++ (x ∷ [])) r f (rw longer g) (rw longer d)))
