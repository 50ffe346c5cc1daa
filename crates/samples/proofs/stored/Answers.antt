-- `samples::stored` meets its contract. The loop's invariant: what is left gives what the whole gives, and the front of the line before is kept.
-- Assumes nothing.
use Rattle.std.proofs.Common.{arith, refl}
use Rattle.samples.proofs.StretchLaws.{at_once, sampled, left-then, finished, other-first, all-stored}
use Rattle.samples.proofs.PowerForm.{range_back}
use Rattle.samples.proofs.LineForm.{first-shape}
use Rattle.samples.proofs.LineScan.{shape-within}
use Rattle.samples.proofs.FrontScan.{nothing-kept, front_kept}
use Rattle.samples.proofs.stored.Goals as goal

pub loop-k-init : goal.loop-k-init
loop-k-init c = (omega arith, omega (arith, c.requires.ended.within), nothing-kept, at_once _ _ _ _ _ _)

pub returns-in_default : goal.returns-in_default
returns-in_default c = finished c.loop-k.invariant.3 (other-first _ _ _ c.in_default.ensures.is)

pub loop-k-preserved : goal.loop-k-preserved
loop-k-preserved c =
    let f = c.in-Some.ensures.front _ _ refl in
    let h = first-shape _ _ _ c.in-Some.ensures.is in (
      omega (arith, h.place),
      shape-within h,
      front_kept f (omega (arith, f.from, h.place)),
      rw (range_back _ h.setpoint_ranged, range_back _ h.actual_ranged) (left-then c.loop-k.invariant.3 (sampled h _ _ c.loop-k-test.true)),
    )

pub returns : goal.returns
returns c = all-stored c.loop-k.invariant.3 (omega arith)
