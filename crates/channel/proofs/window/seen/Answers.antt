-- `channel::window::seen` meets its contract.
-- Assumes nothing.
use Rattle.arithmetic.proofs.Signed.{back32}
use Rattle.bounds.specs.Side.{seen_by}
use Rattle.channel.proofs.window.seen.Goals as goal

pub returns : goal.returns
unfolding seen_by
returns c =
    rw (
      back32 {z = c.farthest.result} c.farthest.type_inv,
      back32 {z = c.farthest-2.result} c.farthest-2.type_inv,
      back32 {z = c.farthest-3.result} c.farthest-3.type_inv,
      back32 {z = c.farthest-4.result} c.farthest-4.type_inv,
      c.farthest.ensures,
      c.farthest-2.ensures,
      c.farthest-3.ensures,
      c.farthest-4.ensures,
      c.windows-windows.ensures,
    )
