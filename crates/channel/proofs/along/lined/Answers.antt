-- `channel::along::lined` meets its contract: the ring from the place after the newest to its end, then from its start to the newest, and what follows.
-- Assumes nothing.
use Rattle.std.proofs.Common.{arith, rules}
use Rattle.channel.proofs.Copied.{line-of}
use Rattle.channel.proofs.along.lined.Goals as goal

pub returns : goal.returns
returns c =
    line-of c.args.ring c.args.setpoints _ _ _ _ c.args.newest c.args.n (omega (arith, c.well_formed)) (omega arith) (omega (arith, c.well_formed))
    (search rules) c.copy_from_slice.ensures.after c.copy_from_slice-2.ensures.after c.copy_from_slice-3.ensures.after
