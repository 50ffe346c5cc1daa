-- `channel::Channel::along` meets its contract: a first setpoint is primed once, and then led along with the others.
-- Assumes nothing.
use Prim.Native.Nat.{◌<◌, ◌≤◌}
use mathlib.Core.Path.{sym, ◌∙◌}
use native.Mathlib.Omega.{arith}
use Rattle.std.proofs.Common.{rules}
use lib.IntN.{pos}
use lib.ListN.{length, get_or}
use mir.Syntax.{w32}
use mir.Val.{SFits}
use mir.ValLaws.{to_z-of_z}
use Rattle.arithmetic.specs.Whole.{least_of}
use Rattle.bounds.specs.Line.{led_count}
use Rattle.channel.proofs.AlongLaws.{primed-true, track-primed, track-none}
use Rattle.channel.proofs.Channel.along.Goals.{After-led_count-n}
use Rattle.channel.proofs.Channel.along.Goals as goal

-- no more than 900, and than either series has places for
fits : (c : After-led_count-n)
    → (c.led_count-n.result ≤ 900)
    × ((c.led_count-n.result ≤ length c.args.ogas.now) × (c.led_count-n.result ≤ length c.args.ugas.now))
unfolding led_count least_of
fits c = omega (arith, c.led_count-n.ensures)

pub returns-then-n-eq0 : goal.returns-then-n-eq0
returns-then-n-eq0 c = track-none c.args.self c.args.setpoints _ _ _ (sym c.led_count-n.ensures ∙ c.if-n-eq0.true)

pub tracked-requires : goal.tracked-requires
tracked-requires c =
    let room = fits (goal.at.tracked-requires c).After-led_count-n in
    let some = c.if-n-eq0.false in record {
      begun_value = (rw c.primed.ensures (primed-true c.args.self _), (omega (arith, some), room.0));
      n_in_bounds = room.1;
    }

pub returns : goal.returns
returns c =
    let a = c.args in
    let n = c.led_count-n in
    let s = get_or a.setpoints 0 (pos 0) in
    let some : 0 < n.result = omega (arith, c.if-n-eq0.false) in
    let all : 0 < length a.setpoints = omega (arith, c.well_formed) in
    let whole : SFits w32 s = search rules in
    rw (← n.ensures, ← track-primed a.self a.setpoints n.result some all)
    (rw (c.primed.ensures, to_z-of_z w32 s whole) at c.tracked.ensures)
