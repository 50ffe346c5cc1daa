-- `mending::mender::Mender::end_refusal` meets its contract. Assumes nothing.
use Rattle.std.proofs.Common.{eq-eqb, ne_eqb}
use Rattle.mending.specs.Mender.{end_refusal}
use Rattle.mending.proofs.mender.Mender.end_refusal.Goals as goal

pub returns-then-self-eq0 : goal.returns-then-self-eq0
unfolding end_refusal
returns-then-self-eq0 c = rw (eq-eqb _ _ c.if-self-eq0.true)

pub returns-then-is_long : goal.returns-then-is_long
unfolding end_refusal
returns-then-is_long c = rw (ne_eqb _ _ c.if-self-eq0.false, ← c.is_long.ensures, c.if-is_long.true)

pub returns : goal.returns
unfolding end_refusal
returns c = rw (ne_eqb _ _ c.if-self-eq0.false, ← c.is_long.ensures, c.if-is_long.false)
