-- What an accepted header says of its numbers.
-- Assumes nothing.
use Prim.Native.Nat.{ℕ, ◌+◌, ◌≤◌}
use mathlib.Core.Path.{◌≡◌}
use mathlib.Core.Bool.{true, not}
use native.Mathlib.Omega.{arith}
use borrow.Author.Tests.{not-false}
use Rattle.std.specs.Prelude.{Ok}
use lib.IntN.{ℤ, pos}
use lib.Signed.{le_z}
use Rattle.arithmetic.specs.Whole.{up, down, within_of}
use Rattle.arithmetic.specs.Date.{real_day}
use Rattle.arithmetic.proofs.Booleans.{both}
use Rattle.arithmetic.proofs.Signed.{le-true, up_pos, down_pos, down-zero}
use Rattle.vocabulary.specs.declared.refusal.Refusal.TheVariants.{BadInterval, BadLot, BadDate, BadQuarters}
use Rattle.vocabulary.specs.declared.header.Header.{Header}
use Rattle.contracts.proofs.Accepted.{passed}
use Rattle.settlement.specs.Plan.{lot_meant}
use Rattle.settlement.specs.Calls.{seconds_known, header_grounds, open_refusal}

pub in-range : (low high : ℕ) (z : ℤ) → within_of (pos low) z (pos high) ≡ true → (low ≤ up z) × (up z ≤ high)
unfolding within_of
in-range low high z e =
    let t = both (le_z (pos low) z) (le_z z (pos high)) e in
    let least : up (pos low) + down z ≤ up z + down (pos low) = le-true (pos low) z t.0 in
    let most : up z + down (pos high) ≤ up (pos high) + down z = le-true z (pos high) t.1 in
    let zero : down z ≡ 0 = down-zero z (omega (arith, up_pos low, down_pos low)) in
    (omega (arith, up_pos low, down_pos low), omega (arith, up_pos high, down_pos high))

-- one that is accepted names 1 to 100 quarter hours
pub opened-quarters : (h : Header) → open_refusal h ≡ Ok tt → (1 ≤ up h.quarters) × (up h.quarters ≤ 100)
unfolding header_grounds
opened-quarters h e =
    let p2 = passed (not (seconds_known (up h.interval))) BadInterval _ e in
    let p3 = passed (not (within_of (pos 1) (lot_meant h.lot) (pos 1000000))) BadLot _ p2.1 in
    let p4 = passed (not (real_day h.date)) BadDate _ p3.1 in
    let p5 = passed (not (within_of (pos 1) h.quarters (pos 100))) BadQuarters (Ok tt) p4.1 in
    in-range 1 100 h.quarters (not-false (within_of (pos 1) h.quarters (pos 100)) p5.0)
