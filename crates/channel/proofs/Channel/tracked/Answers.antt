-- `channel::Channel::tracked` meets its contract: the line's bounds are the channel's, and the line's last setpoints its ring.
-- Assumes nothing.
use Prim.Native.Nat.{◌+◌, ◌%◌, ◌≤◌, ◌<◌}
use mathlib.Core.Path.{sym, ◌∙◌}
use native.Mathlib.Omega.{arith}
use lib.ListN.{length, take}
use lib.Seq.{length-take-le}
use Rattle.channel.proofs.AlongLaws.{newest-after, ring-after, lined-take, count-all, tracks}
use Rattle.channel.proofs.Channel.tracked.Goals as goal

pub returns : goal.returns
returns c =
    let a = c.args in
    let ch = a.self in
    let n = a.n in
    let line = c.lined-line.result in
    let ring = c.ringed in
    let led = c.lead-last in
    let enough : n ≤ length a.setpoints = omega (arith, c.well_formed, c.requires.begun_value) in
    let count = length-take-le n a.setpoints enough in
    let ss = take n a.setpoints in
    let some : 0 < length ss = omega (arith, count, c.requires.begun_value.1.0) in
    let begun = c.requires.begun_value.0 in
    let l = lined-take ch.ring (ch.newest % 302) a.setpoints line n enough c.lined-line.ensures in
    let r = ring-after ch ss line some begun l ring.result ring.ensures.0 (rw (← count) at ring.ensures.1) in
    let m = rw count at (newest-after ch ss line some begun l) in
    let all = count-all n (length a.ogas.now) (length a.ugas.now) c.requires.begun_value.1.1 c.requires.n_in_bounds.0 c.requires.n_in_bounds.1 ∙ sym count in
    tracks ch ss line begun l ring.result ((ch.newest % 302 + n) % 302) led.result _ _ _ _ r (sym m) (rw all at led.ensures)
