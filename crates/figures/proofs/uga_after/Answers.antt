-- `figures::uga_after` meets its contract: the channel has followed the series so far.
-- Assumes nothing.
use native.Mathlib.Omega.{arith}
use native.Mathlib.Numerals.{add-one}
use mathlib.Core.Path.{◌≡◌}
use mir.Syntax.{w32}
use mir.Val.{to_z, of_z}
use mir.ValLaws.{to_z-of_z}
use Rattle.arithmetic.proofs.Signed.{back32}
use Rattle.vocabulary.specs.declared.interval.Interval.TheVariants.{One}
use Rattle.channel.specs.Start.{fresh}
use Rattle.figures.specs.Jump.{jump}
use Rattle.figures.proofs.uga_after.Goals as goal

pub loop-second-init : goal.loop-second-init
unfolding jump
loop-second-init c = c.new-channel.ensures.series

pub loop-second-preserved : goal.loop-second-preserved
unfolding jump
loop-second-preserved c =
    let l = c.loop-second in
    let s = c.setpoint_at in
    let kw = to_z w32 (of_z w32 c.args.kw) in
    rw (add-one l.second) (rw (back32 {z = s.result} s.type_inv, s.ensures) at (c.follow-channel.ensures.series One 5000 fresh (jump kw l.second) l.invariant))

pub returns : goal.returns
returns c =
    let l = c.loop-second in
    let e : l.second ≡ c.args.samples = omega arith in
    rw (c.uga.ensures, ← e) (rw (to_z-of_z w32 c.args.kw c.ranges.kw) at l.invariant.uga)
