-- `judging::judged::judged` meets its contract. The invariant: the verdict is that on the quarter hours that are left. Assumes nothing.
use Rattle.judging.proofs.JudgedLaws.{positive-fails, negative-fails, both_hold, none_left}
use Rattle.judging.specs.Judged.{verdict_from, judged_of}
use Rattle.judging.specs.Kept.{lists_in}
use borrow.Author.Tests.{not-true, not-false}
use mathlib.Core.Path.{◌≡◌, sym, ◌∙◌}
use Prim.Native.Nat.{◌-◌, ◌≤◌}
use native.Mathlib.Omega.{arith}
use Rattle.judging.proofs.judged.judged.Goals as goal

pub returns-then-not-holds_in : goal.returns-then-not-holds_in
returns-then-not-holds_in c =
    let a = c.args in
    let l = c.loop-quarter in
    sym (l.invariant.1 ∙ positive-fails a.books (lists_in a.lists) a.quarters l.quarter c.loop-quarter-test.true
    (sym c.holds_in.ensures ∙ c.if-not-holds_in.true))

pub returns-then-not-holds_in-2 : goal.returns-then-not-holds_in-2
returns-then-not-holds_in-2 c =
    let a = c.args in
    let l = c.loop-quarter in
    sym (l.invariant.1 ∙ negative-fails a.books (lists_in a.lists) a.quarters l.quarter c.loop-quarter-test.true
    (sym c.holds_in.ensures ∙ c.if-not-holds_in.false) (sym c.holds_in-in-loop-quarter.ensures ∙ c.if-not-holds_in-2.true))

pub loop-quarter-preserved : goal.loop-quarter-preserved
loop-quarter-preserved c =
    let a = c.args in
    let l = c.loop-quarter in (
      omega arith,
      l.invariant.1 ∙ both_hold a.books (lists_in a.lists) a.quarters l.quarter c.loop-quarter-test.true
          (sym c.holds_in.ensures ∙ c.if-not-holds_in.false) (sym c.holds_in-in-loop-quarter.ensures ∙ c.if-not-holds_in-2.false),
    )

pub returns : goal.returns
returns c =
    let a = c.args in
    let l = c.loop-quarter in
    sym (l.invariant.1 ∙ none_left a.books (lists_in a.lists) a.quarters l.quarter c.loop-quarter-test.false)
