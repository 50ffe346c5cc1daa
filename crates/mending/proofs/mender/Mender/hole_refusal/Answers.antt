-- `mending::mender::Mender::hole_refusal` meets its contract. Assumes nothing.
use Rattle.mending.specs.Mender.{hole_refusal}
use Rattle.mending.proofs.mender.Mender.hole_refusal.Goals as goal

pub returns-then-lacks_start : goal.returns-then-lacks_start
unfolding hole_refusal
returns-then-lacks_start c = rw (← c.lacks_start.ensures, c.if-lacks_start.true)

pub returns-then-is_long : goal.returns-then-is_long
unfolding hole_refusal
returns-then-is_long c = rw (← c.lacks_start.ensures, c.if-lacks_start.false, ← c.is_long.ensures, c.if-is_long.true)

pub returns : goal.returns
unfolding hole_refusal
returns c = rw (← c.lacks_start.ensures, c.if-lacks_start.false, ← c.is_long.ensures, c.if-is_long.false)
