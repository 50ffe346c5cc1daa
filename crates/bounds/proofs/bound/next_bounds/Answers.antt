-- `bounds::bound::next_bounds` meets its contract: bounds that are brought out to where they can be moved are followed by the same ones.
-- Assumes nothing.
use borrow.Author.Rules.{rules}
use mathlib.Core.Path.{◌∙◌}
use mir.Syntax.{w32}
use mir.Val.{SFits}
use Rattle.bounds.proofs.Moving.{brought-out-movable, brought-out-next}
use Rattle.bounds.proofs.bound.next_bounds.Goals as goal

pub next_movable-requires : goal.next_movable-requires
next_movable-requires c = rw c.movable.ensures (brought-out-movable c.args.held)

pub returns : goal.returns
returns c =
    let a = c.args in
    let high : SFits w32 a.seen.highest = search rules in
    let low : SFits w32 a.seen.lowest = search rules in
    rw c.movable.ensures at c.next_movable.ensures.0 ∙ brought-out-next a.interval a.lot a.seen a.held high low
