-- `settlement::grounds::seconds_known` meets its contract.
-- Assumes nothing.
use Rattle.std.proofs.Common.{arith, ◌≡◌}
use native.Mathlib.Decide.{ℕ_discrete}
use borrow.Author.Tests.{ne_eqb}
use Rattle.settlement.specs.Calls.{seconds_known}
use Rattle.settlement.proofs.grounds.seconds_known.Goals as goal

pub returns-in_default : goal.returns-in_default
unfolding seconds_known
returns-in_default c =
    let s = c.args.seconds in
    rw (ne_eqb s 1 (λ e. omega arith), ne_eqb s 3 (λ e. omega arith), ne_eqb s 4 (λ e. omega arith))

pub returns-in_default-2 : goal.returns-in_default-2
unfolding seconds_known
returns-in_default-2 c =
    let s = c.args.seconds in
    rw (ne_eqb s 1 (λ e. omega arith), ne_eqb s 3 (λ e. omega arith), ne_eqb s 4 (λ e. omega arith))

pub returns-in-1 : goal.returns-in-1
unfolding seconds_known
returns-in-1 c = rw c.in-1.is

pub returns-in-1-2 : goal.returns-in-1-2
unfolding seconds_known
returns-in-1-2 c =
    let s = c.args.seconds in
    elim (ℕ_discrete s 3) [
      | yes e ↦ rw e
      | no e ↦ let four : s ≡ 4 = omega arith in rw four
    ]
