-- `shares::topped_up` meets its contract.
-- Assumes nothing.
use Rattle.arithmetic.specs.Energy.{kwh}
use Rattle.shares.proofs.Parting.{following, plus_at, added-outputs}
use Rattle.series.specs.Scan.{each}
use Rattle.series.proofs.Scanned.{scanned-more, scanned-whole, each-outputs}
use lib.ListN.{replicate}
use native.Mathlib.Omega.{arith}
use mathlib.Core.Path.{◌∙◌, sym, ap}
use Rattle.shares.proofs.topped_up.Goals as goal

pub loop-k-preserved : goal.loop-k-preserved
loop-k-preserved c =
    let a = c.args in
    let l = c.loop-k in
    rw c.from.ensures (scanned-more following (λ j v. kwh (plus_at a.extras j v)) 0 a.floors (replicate 32 (kwh 0)) l.k l.out l.k 0 (omega arith) (omega arith) l.invariant)

pub returns : goal.returns
returns c =
    let a = c.args in
    let l = c.loop-k in
    scanned-whole following (λ j v. kwh (plus_at a.extras j v)) 0 a.floors (replicate 32 (kwh 0)) l.k l.out l.k (omega arith) (omega arith) l.invariant
    ∙ sym (each-outputs kwh following (plus_at a.extras) 0 a.floors) ∙ ap (each kwh) (added-outputs a.extras a.floors 0)
