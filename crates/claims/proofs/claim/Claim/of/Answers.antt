-- `claims::claim::Claim::of` meets its contract.
-- Assumes nothing.
use Rattle.std.proofs.Common.{◌≡◌, ℕ, arith, min}
use Rattle.arithmetic.specs.Whole.{least_of}
use Rattle.claims.specs.Claims.{claim_from, under_of, cap_of, capped_of, gap_of}
use Rattle.claims.proofs.claim.Claim.of.Goals as goal

least-is : (a b : ℕ) → min a b ≡ least_of a b
unfolding least_of
least-is a b = omega arith

pub returns : goal.returns
unfolding claim_from under_of cap_of capped_of gap_of
returns c =
    rw (c.min-2.ensures, c.saturating_sub-2.ensures, c.min.ensures, c.saturating_sub-cap.ensures, c.saturating_sub.ensures) (simp least-is)
