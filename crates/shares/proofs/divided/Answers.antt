-- `shares::divided` meets its contract. The loop maps the gaps to both arrays.
-- Assumes nothing.
use Rattle.arithmetic.specs.Energy.{kwh}
use Rattle.shares.specs.Shares.{share_floor, remainder, amount}
use Rattle.series.proofs.Scanned.{mapped-more, mapped-whole, each-each}
use lib.ListN.{replicate}
use native.Mathlib.Omega.{arith}
use mathlib.Core.Path.{◌∙◌, sym}
use Rattle.shares.proofs.divided.Invariants.{down, rest}
use Rattle.shares.proofs.divided.Goals as goal

pub loop-k-preserved : goal.loop-k-preserved
unfolding share_floor remainder
loop-k-preserved c =
    let a = c.args in
    let l = c.loop-k in
    rw c.from.ensures (
      mapped-more (down a.handed a.total) a.gaps (replicate 32 0) l.floors l.k (kwh 0) (omega arith) (omega arith) l.invariant.0,
      mapped-more (rest a.handed a.total) a.gaps (replicate 32 0) l.rests l.k (kwh 0) (omega arith) (omega arith) l.invariant.1,
    )

pub returns : goal.returns
returns c =
    let a = c.args in
    let l = c.loop-k in
    record {
      down = mapped-whole (down a.handed a.total) a.gaps (replicate 32 0) l.floors l.k (omega arith) (omega arith) l.invariant.0
          ∙ sym (each-each (share_floor a.handed a.total) amount a.gaps);
      left = mapped-whole (rest a.handed a.total) a.gaps (replicate 32 0) l.rests l.k (omega arith) (omega arith) l.invariant.1
          ∙ sym (each-each (remainder a.handed a.total) amount a.gaps);
    }
