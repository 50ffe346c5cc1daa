-- `bounds::line::show` meets its contract: each setpoint is a window of one, and the passes make the near windows of them, and of these the
-- spread ones.
-- Assumes nothing.
use Prim.Native.Nat.{◌+◌}
use Rattle.bounds.proofs.WindowLaws.{alone}
use Rattle.bounds.proofs.LineLaws.{near-windows, spread-windows}
use Rattle.bounds.proofs.line.show.Goals as goal

pub returns : goal.returns
returns c =
    let a = c.args in
    let line = a.line.now in
    let near = rw c.windows-windows.ensures at (c.grown.ensures line (alone a.side line (302 + a.n))) in
    let spread = rw c.windows-windows.ensures at c.grown-2.ensures in record {
      nears = near-windows a.side line a.n _ a.interval near;
      spreads = spread-windows a.side line a.n _ a.interval (spread line near);
    }
