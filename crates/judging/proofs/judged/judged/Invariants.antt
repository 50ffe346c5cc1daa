use Rattle.judging.proofs.JudgedLaws.{positive-fails, negative-fails, both_hold, none_left}
use Rattle.judging.specs.Judged.{verdict_from, judged_of}
use Rattle.judging.specs.Kept.{lists_in}
use borrow.Author.Tests.{not-true, not-false}
use mathlib.Core.Path.{◌≡◌, sym, ◌∙◌}
use Prim.Native.Nat.{◌-◌, ◌≤◌}
use native.Mathlib.Omega.{arith}
use Rattle.judging.proofs.judged.judged.Given as goal

abbrev pub invariant-loop-quarter : goal.invariant-loop-quarter
invariant-loop-quarter l =
    (l.quarter ≤ l.quarters) × (judged_of l.books (lists_in l.lists) l.quarters ≡ verdict_from l.books (lists_in l.lists) l.quarters l.quarter (l.quarters - l.quarter))
