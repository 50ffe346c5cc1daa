-- `channel::along::ringed` meets its contract: the end of the line up to the newest, and before it in the line, after it in the ring, the rest.
-- Assumes nothing.
use Rattle.std.proofs.Common.{arith, rules}
use Rattle.channel.proofs.Copied.{ring-of}
use Rattle.channel.proofs.along.ringed.Goals as goal

pub returns : goal.returns
returns c =
    ring-of c.args.line _ _ _ c.args.n c.args.newest (omega (arith, c.well_formed)) (omega arith) (omega arith)
    (search rules) c.copy_from_slice.ensures.after c.copy_from_slice-2.ensures.after
