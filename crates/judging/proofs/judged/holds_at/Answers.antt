-- `judging::judged::holds_at` meets its contract. Assumes nothing.
use Rattle.std.proofs.Common.{rules, arith, ℕ, ◌<◌, ◌≡◌, ◌∙◌, sym, ap, length, get_or, List}
use Rattle.arithmetic.specs.Energy.{kwh}
use Rattle.series.specs.Scan.{each}
use Rattle.contracts.proofs.Looking.{unmapped, each-at}
use Rattle.judging.proofs.JudgedLaws.{kwh-amounts}
use Rattle.judging.specs.Kept.{no_gaps}
use Rattle.judging.specs.Judged.{holds_at}
use Rattle.judging.proofs.judged.holds_at.Goals as goal

pub returns : goal.returns
unfolding holds_at no_gaps
returns c =
    let gaps = c.unwrap_or-gaps.result in
    let there : gaps ≡ get_or c.args.lists.gaps.now c.args.row no_gaps = search rules in
    let surplus : c.unwrap_or-surplus.result ≡ get_or c.args.lists.surpluses.now c.args.row 0 = search rules in
    let m : length gaps ≡ 32 = search rules in
    let at : (i : ℕ) → i < length gaps → get_or c.map.result i (kwh 0) ≡ kwh (get_or gaps i 0) =
    λ i h. let called = (c.map.ensures.items.at i 0 (kwh 0) (omega arith)).2 in search (rules, called) in
    let mapped : c.map.result ≡ each kwh gaps = each-at kwh gaps c.map.result 0 (kwh 0) (c.map.ensures.items.long ∙ sym m) at in
    c.acceptable.ensures ∙ rw (mapped, kwh-amounts gaps, there, surplus, c.shares_from.ensures)
