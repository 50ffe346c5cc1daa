-- `contracts::terms::limits` meets its contract. The loop raises the limit by one award a turn, and 32 awards in units fit 64 bits.
-- Assumes nothing.
use Rattle.std.proofs.Common.{arith}
use Rattle.series.specs.Cuts.{no_sums}
use Rattle.series.proofs.Cuts.{sums-32}
use Rattle.contracts.specs.Terms.{upper_of}
use Rattle.series.proofs.Scanned.{scanned-none, scanned-more, scanned-whole}
use Rattle.contracts.proofs.terms.limits.Goals as goal

pub loop-k-init : goal.loop-k-init
unfolding no_sums
loop-k-init c = (scanned-none upper_of upper_of 0 c.args.terms no_sums, omega arith)

pub overflow_add-high : goal.overflow_add-high
overflow_add-high c = omega arith

pub loop-k-preserved : goal.loop-k-preserved
unfolding upper_of
loop-k-preserved c =
    let s = c in
    let l = c.loop-k in
    let awarded = c.award-high.ensures in
    let raised = rw awarded.0 at awarded.1 in
    rw
    awarded.0 (
      scanned-more upper_of upper_of 0 s.args.terms no_sums l.high l.out l.k _ (omega (arith, sums-32, s.well_formed)) (omega (arith, s.well_formed)) l.invariant.0,
      omega (arith, raised),
    )

pub returns : goal.returns
returns c =
    let s = c in
    let l = c.loop-k in
    scanned-whole upper_of upper_of 0 s.args.terms no_sums l.high l.out l.k (omega (arith, s.well_formed)) (omega (arith, sums-32, s.well_formed)) l.invariant.0
