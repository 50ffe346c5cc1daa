-- `judging::kept::keep_row` meets its contract. Assumes nothing.
use Rattle.std.proofs.Common.{rules, arith, ℕ, ◌<◌, ◌≡◌, ◌∙◌, sym, length}
use lib.ListN.{get_or}
use lib.Seq.{set_out}
use Rattle.contracts.proofs.Looking.{unmapped, each-at}
use Rattle.quarter.proofs.LineLaws.{past_end}
use Rattle.series.specs.Scan.{each}
use Rattle.judging.specs.Kept.{gap_on}
use Rattle.judging.proofs.kept.keep_row.Goals as goal
use Rattle.judging.proofs.kept.keep_row.Goals.{then-row-surpluses, else-row-surpluses}

pub returns-then-row-gaps : goal.returns-then-row-gaps
returns-then-row-gaps c = λ shares.
    let lines = c.args.sheet.lines in
    let m : length lines ≡ 32 = search (rules, unmapped) in
    let at : (i : ℕ) → i < length lines → get_or c.map.result i 0 ≡ gap_on (get_or lines i past_end) =
    λ i h. let called = (c.map.ensures.items.at i past_end 0 (omega arith)).2 in search (rules, called) in
    let gaps : c.map.result ≡ each gap_on lines = each-at gap_on lines c.map.result past_end 0 (c.map.ensures.items.long ∙ sym m) at in
    elim c.if-row-surpluses.branch [
      | then-row-surpluses w ↦ rw (w.surpluses-is, gaps)
      | else-row-surpluses w ↦ rw (w.surpluses-is, gaps, set_out c.args.surpluses.now c.args.row c.args.sheet.pool.surplus.0 w.if-row-surpluses.false)
    ]
