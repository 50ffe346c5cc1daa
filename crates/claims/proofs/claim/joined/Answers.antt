-- `claims::claim::joined` meets its contract. The loop stores the claims of the contracts so far.
-- Assumes nothing.
use Rattle.std.proofs.Common.{arith, rules, ◌≡◌}
use Rattle.arithmetic.specs.Energy.{kwh}
use Rattle.claims.specs.Views.{claim_at}
use Rattle.claims.specs.Powers.{next}
use Rattle.claims.specs.Blank.{no_claim, no_claims}
use Rattle.arithmetic.specs.Whole.{least_of}
use Rattle.claims.specs.Claims.{claim_from, under_of, cap_of, capped_of, gap_of}
use Rattle.claims.proofs.Blanks.{claims-32}
use Rattle.series.proofs.Scanned.{first_more, first-all}
use Rattle.claims.proofs.claim.joined.Goals as goal

pub loop-k-init : goal.loop-k-init
unfolding no_claim no_claims claim_from under_of cap_of capped_of gap_of least_of
loop-k-init c =
    let none : c.of-out.result ≡ no_claim = c.of-out.ensures in
    rw none (search rules)

pub loop-k-preserved : goal.loop-k-preserved
unfolding claim_at
loop-k-preserved c =
    let l = c.loop-k in
    let a = c.args in
    rw c.of.ensures
    (first_more next (claim_at a.actuals a.acceptances a.floors a.shortfalls) 0 a.setpoints a.count no_claims (omega arith)
    l.k l.out l.k (kwh 0) (omega (arith, claims-32, c.requires)) c.loop-k-test.true l.invariant)

pub returns : goal.returns
returns c =
    let l = c.loop-k in
    let a = c.args in
    first-all next (claim_at a.actuals a.acceptances a.floors a.shortfalls) 0 a.setpoints a.count no_claims (omega arith)
    l.k l.out l.k c.loop-k-test.false l.invariant
