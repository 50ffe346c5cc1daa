-- `bounds::line::lead` meets its contract: a flat line has its own windows, and for those of any other there is room.
-- Assumes nothing.
use Rattle.bounds.proofs.LineLaws.{flat-shown}
use Rattle.bounds.proofs.line.lead.Goals as goal

pub returns-then-is_flat : goal.returns-then-is_flat
returns-then-is_flat c =
    let a = c.args in
    let flat = c.is_flat.ensures c.if-is_flat.true in
    rw (← c.led_count-n.ensures) (c.bounded.ensures a.line (flat-shown a.line c.led_count-n.result flat a.interval))

pub returns : goal.returns
returns c =
    let upper = c.show.ensures in
    let lower = c.show-2.ensures in
    rw (← c.led_count-n.ensures)
    (c.bounded-2.ensures c.args.line (record { near_upper = upper.nears; near_lower = lower.nears; spread_upper = upper.spreads; spread_lower = lower.spreads }))
