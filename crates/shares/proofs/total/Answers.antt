-- `shares::total` meets its contract. 32 gaps below 2 ^ 32 do not pass a u64.
-- Assumes nothing.
use Rattle.std.proofs.Common.{rules, arith, ◌^◌, ◌≤◌, ◌∙◌, length}
use Rattle.std.proofs.lemmas.Iterator.{YieldsList-from_slice, YieldsList-from_map}
use Rattle.std.proofs.lemmas.Iterator.Adapters.{fits_from_length, at_most_from_yields_List}
use Rattle.std.proofs.lemmas.Iterator.Consumers.{sum_by_from_yields_List}
use Rattle.shares.specs.Shares.{amount}
use Rattle.shares.proofs.Sums.{sum_by-each}
use Rattle.shares.proofs.total.Goals as goal

pub sum-requires-clause-fits : goal.sum-requires-clause-fits
sum-requires-clause-fits c =
    let few : length c.args.gaps ≤ 32 = search rules in
    fits_from_length _ _ 32 (2 ^ 64) (at_most_from_yields_List (YieldsList-from_slice c.args.gaps cc) few) c.map.ensures.closure (omega arith) (λ x r q k. search rules)

pub returns : goal.returns
returns c =
    sum_by_from_yields_List amount c.args.gaps c.map.result _ c.sum.ensures.ran
    (YieldsList-from_map _ amount (YieldsList-from_slice c.args.gaps cc) c.map.ensures.closure (λ x r q k. search rules))
    ∙ sum_by-each amount c.args.gaps
