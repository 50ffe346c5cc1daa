use Prim.Native.Nat.{◌+◌, ◌*◌, ◌^◌, ◌≤◌}
use mathlib.Core.Path.{◌≡◌}
use lib.ListN.{drop}
use Rattle.contracts.specs.Book.{sum_of_awards}
use Rattle.contracts.proofs.book.Book.sum_of_awards.Given as goal

abbrev pub invariant-loop-contract : goal.invariant-loop-contract
invariant-loop-contract l =
    (l.sum + sum_of_awards (drop l.contract-index l.contract-items) ≡ sum_of_awards l.contract-items) × (l.sum ≤ l.contract-index * 2 ^ 32)
