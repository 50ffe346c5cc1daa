-- `channel::Channel::advanced` meets its contract.
-- Assumes nothing.
use Rattle.channel.specs.State.{advanced_of, past_of}
use Rattle.bounds.proofs.Sides.{next-seen}
use Rattle.channel.proofs.Channel.advanced.Goals as goal

pub returns : goal.returns
unfolding advanced_of past_of
returns c =
    let ch = c.args.self in
    rw (c.next_bounds-next.ensures, c.seen-shown.ensures, next-seen ch.interval ch.lot (past_of ch) (record { oga = ch.oga; uga = ch.uga }))
