-- The sums of a direction fit 64 bits, and the energies by them are those in the words of the rules: the slices and the rest of a quantity make the
-- pool's energy of it, and what is short of the inner bound is what it has above what is kept.
-- Assumes nothing.
use Rattle.std.proofs.Common.{◌≡◌, ℕ, suc, ◌+◌, ◌%◌, ◌^◌, ◌≤◌, List, [], ◌∷◌, ◌++◌, length, drop, refl, ◌∙◌, mod-eq_of_lt, add-one, arith}
use Rattle.arithmetic.specs.Whole.{least_of}
use Rattle.series.specs.Scan.{outputs, each}
use Rattle.series.specs.Sums.{over_of, sum_of}
use Rattle.series.specs.Slices.{both_of}
use Rattle.series.specs.Cuts.{Cut, sliced_in, cuts_of, above_of, last_of, no_sums, pieces_of}
use Rattle.series.specs.declared.cutting.Pieces.{Pieces}
use Rattle.series.proofs.Order.{Below, sliced-mono}
use Rattle.series.proofs.Order.Below.{none, more}
use Rattle.series.proofs.Scanned.{each-length, outputs-length}
use Rattle.series.proofs.Whole.{pieces_exact, pieces-32}
use Rattle.vocabulary.specs.declared.direction.Direction.{Direction}
use Rattle.values.specs.declared.part.Part.{Part}
use Rattle.values.specs.declared.value.Quantity.{Quantity}
use Rattle.values.specs.declared.value.Quantity.TheVariants.{Setpoint, Actual, Acceptance, Surplus, Shortfall, UnderDelivery, Inner, Floor, Covered, Kept}
use Rattle.values.specs.Part.{amount_of}
use Rattle.contracts.specs.declared.terms.Terms.{Terms}
use Rattle.contracts.specs.Terms.{upper_of, limits_of}
use Rattle.claims.specs.Powers.{Samples, next, powers_of}
use Rattle.claims.specs.Views.{parts_of, sums_of, less_at, less_of, short_of, whole_of, energy_held, rest_by, claims_by, energies_by}
use Rattle.claims.specs.Claims.{pool_energy, rest_of, claims_in, energies_of}
use Rattle.claims.specs.Room.{Small, Fits, AllFit}
use Rattle.claims.specs.declared.energies.Sums.{Sums}
use Rattle.claims.proofs.PowerLaws.{powers-are}
use Rattle.claims.proofs.Rests.{pieces-parted}
use Rattle.claims.proofs.Joining.{rest_at, slice_at, lack-at, joined-claims}

-- ---- what is kept is the smaller of the inner bound and what is covered, and the rest of the inner bound is short

both-each : {X : Type 0} (f g : X → ℕ) (l : List X) → each (λ x. least_of (f x) (g x)) l ≡ both_of (each f l) (each g l)
unfolding each both_of
both-each f g [] = refl
both-each f g (x ∷ l) = rw (both-each f g l)

below_each : {X : Type 0} (f g : X → ℕ) → ((x : X) → f x ≤ g x) → (l : List X) → Below (each f l) (each g l)
unfolding each
below_each f g h [] = none
below_each f g h (x ∷ l) = more (h x) (below_each f g h l)

pub kept-le : (p : Part) → amount_of Kept p ≤ amount_of Inner p
unfolding least_of
kept-le p = omega arith

short-one : (p : Part) → amount_of Shortfall p + amount_of Kept p ≡ amount_of Inner p
unfolding least_of
short-one p = omega arith

short-each : (ps : List Part) → sum_of (each (amount_of Shortfall) ps) + sum_of (each (amount_of Kept) ps) ≡ sum_of (each (amount_of Inner) ps)
unfolding each over_of
short-each [] = refl
short-each (p ∷ ps) = omega (arith, short-one p, short-each ps)

module _ (d : Direction) (x : Samples) where
  pub kept-is : powers_of d x Kept ≡ both_of (powers_of d x Inner) (powers_of d x Covered)
  kept-is = rw (← powers-are d x Kept, ← powers-are d x Inner, ← powers-are d x Covered) (both-each (amount_of Inner) (amount_of Covered) (parts_of d x))

  kept-below : Below (powers_of d x Kept) (powers_of d x Inner)
  kept-below = rw (← powers-are d x Kept, ← powers-are d x Inner) (below_each (amount_of Kept) (amount_of Inner) kept-le (parts_of d x))

  short-sum : sum_of (powers_of d x Shortfall) + sum_of (powers_of d x Kept) ≡ sum_of (powers_of d x Inner)
  short-sum = rw (← powers-are d x Shortfall, ← powers-are d x Kept, ← powers-are d x Inner) (short-each (parts_of d x))

-- ---- sums less smaller sums

pub less-shift : (w : ℕ) (others : List ℕ) (i : ℕ) (l : List ℕ) → outputs next (less_at (w ∷ others)) (suc i) l ≡ outputs next (less_at others) i l
unfolding outputs less_at
less-shift w others i [] = refl
less-shift w others i (v ∷ l) = rw (add-one (suc i), add-one i, less-shift w others (suc i) l)

less-sum : {others sums : List ℕ} → Below others sums → sum_of (less_of sums others) + sum_of others ≡ sum_of sums
unfolding outputs less_at over_of
less-sum none = refl
less-sum (more {v} {w} {l} {m} h b) = rw (less-shift v l 0 m) (omega (arith, less-sum b))

below_self : (l : List ℕ) → Below l l
below_self [] = none
below_self (v ∷ l) = more {v = v} {w = v} (omega arith) (below_self l)

below-cuts : {l m : List ℕ} → Below l m → (cs : List Cut) (rest : List ℕ) → Below (each (sliced_in l) cs ++ rest) (each (sliced_in m) cs ++ rest)
unfolding each
below-cuts b [] rest = below_self rest
below-cuts b (c ∷ cs) rest = more (sliced-mono c.low c.high b) (below-cuts b cs rest)

above-mono : (low : ℕ) {l m : List ℕ} → Below l m → above_of low l ≤ above_of low m
unfolding over_of
above-mono low none = omega arith
above-mono low (more h b) = omega (arith, above-mono low b)

-- ---- a direction

module _ (d : Direction) (x : Samples) (seconds : ℕ) (ts : List Terms) (small : (q : Quantity) → Small seconds (powers_of d x q)) where
  abbrev limits : List ℕ
  limits = limits_of ts

  abbrev pieces : Quantity → Pieces
  pieces q = pieces_of limits (powers_of d x q)

  whole_is : (q : Quantity) → whole_of (pieces q) ≡ sum_of (powers_of d x q)
  whole_is q = pieces-parted ts (powers_of d x q) (small q).plain

  short-whole : whole_of (short_of (pieces Inner) (pieces Kept)) ≡ sum_of (powers_of d x Shortfall)
  short-whole =
      let inner = pieces_exact limits (powers_of d x Inner) (small Inner).plain in
      let kept = pieces_exact limits (powers_of d x Kept) (small Kept).plain in
      let b = kept-below d x in
      let sums : sum_of (less_of (pieces Inner).sums (pieces Kept).sums) + sum_of (pieces Kept).sums ≡ sum_of (pieces Inner).sums =
      less-sum (rw (inner, kept) (below-cuts b (cuts_of limits) (drop (length limits) no_sums))) in
      let rests : (pieces Kept).rest ≤ (pieces Inner).rest = rw (inner, kept) (above-mono (last_of limits) b) in
      omega (arith, sums, rests, whole_is Inner, whole_is Kept, short-sum d x)

  -- no sum passes 64 bits
  fits : (q : Quantity) → Fits seconds (pieces q)
  fits q = record { held = rw (whole_is q) (small q).held; plain = rw (whole_is q) (small q).plain }

  exact : (q : Quantity) → sum_of (powers_of d x q) % 2 ^ 64 ≡ sum_of (powers_of d x q)
  exact q = mod-eq_of_lt (small q).plain

  all_fit : AllFit seconds (sums_of (powers_of d x) limits)
  unfolding sums_of
  all_fit =
      record {
        setpoint = fits Setpoint;
        actual = fits Actual;
        acceptance = fits Acceptance;
        floor = fits Floor;
        shortfall = record { held = rw short-whole (small Shortfall).held; plain = rw short-whole (small Shortfall).plain };
        surplus = rw (exact Surplus) (small Surplus).held;
        under = rw (exact UnderDelivery) (small UnderDelivery).held;
      }

  pub fit-listed : (sums : Sums) → sums ≡ sums_of (powers_of d x) limits → AllFit seconds sums
  fit-listed sums e = rw e all_fit

  -- the pool's energies
  pool-is : (q : Quantity) (sum : ℕ) → sum ≡ sum_of (powers_of d x q) → energy_held seconds sum ≡ pool_energy seconds (powers_of d x q)
  unfolding energy_held pool_energy
  pool-is q sum e = rw e

  module _ (few : length ts ≤ 32) where
    many : length limits ≡ length ts
    many = outputs-length upper_of upper_of 0 ts

    room : length limits ≤ 32
    room = omega (arith, many)

    claims-are : claims_by seconds (sums_of (powers_of d x) limits) (length ts) ≡ claims_in seconds (powers_of d x) ts
    unfolding claims_by sums_of
    claims-are =
        let stored = each-length (energy_held seconds) (pieces Setpoint).sums ∙ pieces-32 limits (powers_of d x Setpoint) room in
        rw
        (joined-claims seconds (powers_of d x) limits (length ts) (each (energy_held seconds) (pieces Setpoint).sums) (each (energy_held seconds) (pieces Actual).sums)
        (each (energy_held seconds) (pieces Acceptance).sums) (each (energy_held seconds) (pieces Floor).sums)
        (each (energy_held seconds) (less_of (pieces Inner).sums (pieces Kept).sums)) many (omega (arith, stored))
        (record {
          setpoint = slice_at seconds limits (powers_of d x Setpoint) (small Setpoint) room;
          actual = slice_at seconds limits (powers_of d x Actual) (small Actual) room;
          acceptance = slice_at seconds limits (powers_of d x Acceptance) (small Acceptance) room;
          floor = slice_at seconds limits (powers_of d x Floor) (small Floor) room;
          shortfall = lack-at seconds limits (powers_of d x Inner) (powers_of d x Kept) (small Inner) (small Kept) (powers_of d x Covered) (kept-is d x) room;
        }))

    energies-are : energies_by seconds (sums_of (powers_of d x) limits) (length ts) ≡ energies_of seconds (powers_of d x) ts
    unfolding energies_by rest_by energies_of rest_of sums_of
    energies-are =
        rw (
          claims-are,
          pool-is Setpoint (whole_of (pieces Setpoint)) (whole_is Setpoint),
          pool-is Actual (whole_of (pieces Actual)) (whole_is Actual),
          pool-is Acceptance (whole_of (pieces Acceptance)) (whole_is Acceptance),
          pool-is Shortfall (whole_of (short_of (pieces Inner) (pieces Kept))) short-whole,
          pool-is Surplus (sum_of (powers_of d x Surplus) % 2 ^ 64) (exact Surplus),
          pool-is UnderDelivery (sum_of (powers_of d x UnderDelivery) % 2 ^ 64) (exact UnderDelivery),
          rest_at seconds limits (powers_of d x Setpoint) (small Setpoint),
          rest_at seconds limits (powers_of d x Actual) (small Actual),
          rest_at seconds limits (powers_of d x Acceptance) (small Acceptance),
        )

    pub energies-listed : (sums : Sums) (count : ℕ) → sums ≡ sums_of (powers_of d x) limits → length ts ≡ count
        → energies_by seconds sums count ≡ energies_of seconds (powers_of d x) ts
    energies-listed sums count e n = rw (e, ← n) energies-are
