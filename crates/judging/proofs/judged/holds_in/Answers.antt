-- `judging::judged::holds_in` meets its contract. Assumes nothing.
use Rattle.judging.specs.Judged.{holds_in}
use Rattle.std.proofs.Common.{rules}
use Rattle.judging.proofs.judged.holds_in.Goals as goal

pub returns : goal.returns
unfolding holds_in
returns c =
    rw (← c.row_of-row.ensures, ← c.shares_before-from.ensures.is, ← c.book.ensures, ← c.held-held.ensures.is) c.holds_at.ensures
