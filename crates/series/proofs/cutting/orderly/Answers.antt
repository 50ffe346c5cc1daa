-- `series::cutting::orderly` meets its contract: limits that are sorted rise.
-- Assumes nothing.
use Rattle.std.proofs.Common.{◌≤◌, rules}
use Rattle.std.specs.List.{All}
use Rattle.std.specs.Prelude.{◌↔◌, IsTrue}
use Rattle.std.proofs.lemmas.List.Sorted.{non_decreasing_from_is_sorted}
use Rattle.series.proofs.cutting.orderly.Goals as goal

pub returns-then-is_sorted : goal.returns-then-is_sorted
returns-then-is_sorted c = λ e.
    let all : IsTrue c.all.result ↔ All (λ l. l ≤ 281474976710656) c.args.limits.now = search rules in
    let r = rw c.if-is_sorted.true at (non_decreasing_from_is_sorted c.args.limits.now c.is_sorted.result c.is_sorted.ensures.cases) in
    record { few = c.requires; rising = λ i j p q. r i j 0 p q; small = λ i p. all.0 e i 0 p }
