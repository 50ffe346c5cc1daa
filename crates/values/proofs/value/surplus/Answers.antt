-- `values::value::surplus` meets its contract, by the test of the outer bound. What is accepted is what is reached, cut at the outer bound.
-- Assumes nothing.
use mathlib.Core.Path.{◌≡◌}
use Prim.Native.Nat.{ℕ, ◌-◌, ◌*◌, ◌≤◌}
use native.Mathlib.Omega.{arith}
use borrow.Author.Tests.{eq-eqb, ne_eqb}
use Rattle.arithmetic.specs.Whole.{least_of, most_of}
use Rattle.values.specs.declared.part.Part.{Part}
use Rattle.values.specs.Part.{acceptance_of, ceiling_of, surplus_of}
use Rattle.values.proofs.value.surplus.Goals as goal

outer-reached : (p : Part) → p.outer.0 ≤ ceiling_of p
unfolding ceiling_of most_of
outer-reached p = omega arith

accepted-reached : (p : Part) → acceptance_of p ≤ least_of (p.actual * 5400) (ceiling_of p)
unfolding acceptance_of least_of
accepted-reached p = omega (arith, outer-reached p)

-- where the actual is below the outer bound, both are 0, and else the outer bound is what is accepted
less-accepted : (actual outer ceiling : ℕ) → outer ≤ ceiling → least_of actual ceiling - least_of actual outer ≡ least_of actual ceiling - outer
unfolding least_of
less-accepted actual outer ceiling h = omega arith

pub returns-then-unreached : goal.returns-then-unreached
unfolding surplus_of
returns-then-unreached c = rw (eq-eqb c.args.p.outer.0 0 c.if-unreached.true)

pub overflow_sub-result : goal.overflow_sub-result
overflow_sub-result c =
    let part : c.acceptance-accepted.result.0 ≤ c.least-reached.result.0 =
    rw (c.acceptance-accepted.ensures, c.least-reached.ensures, c.scaled.ensures, c.ceiling.ensures) (accepted-reached _) in
    omega (arith, part)

pub returns : goal.returns
unfolding acceptance_of surplus_of
returns c =
    let p = c.args.p in
    rw (ne_eqb p.outer.0 0 c.if-unreached.false, c.acceptance-accepted.ensures, c.least-reached.ensures, c.scaled.ensures, c.ceiling.ensures)
    (less-accepted (p.actual * 5400) p.outer.0 (ceiling_of p) (outer-reached p))
