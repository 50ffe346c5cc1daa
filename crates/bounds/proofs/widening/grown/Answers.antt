-- `bounds::widening::grown` meets its contract: one pass straight into its place, or two by way of what is lent aside, and then the rest; each pass widens
-- by its own step, so either way is right.
-- Assumes nothing.
use Prim.Native.Nat.{◌+◌}
use native.Mathlib.Omega.{arith}
use Rattle.bounds.proofs.WindowLaws.{widens}
use Rattle.bounds.proofs.widening.grown.Goals as goal

pub returns-then-odd_passes : goal.returns-then-odd_passes
returns-then-odd_passes c = λ line r.
    let a = c.args in
    c.grow.ensures line (widens a.side line _ _ a.from c.step-d.result a.len (omega arith) (omega arith) r c.widen.ensures)

pub returns-else-odd_passes : goal.returns-else-odd_passes
returns-else-odd_passes c = λ line r.
    let a = c.args in
    let d = c.step-d.result in
    let once = widens a.side line _ _ a.from d a.len (omega arith) (omega arith) r c.widen-else-odd_passes.ensures in
    c.grow-else-odd_passes.ensures line (widens a.side line _ _ (a.from + d) c.step-e.result a.len (omega arith) (omega arith) once c.widen-else-odd_passes-2.ensures)
