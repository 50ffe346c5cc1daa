-- `bounds::line::bounded` meets its contract: for every line whose windows it is given, the loop stands where the line's bounds are after i setpoints, and
-- its bounds can be moved.
-- Assumes nothing.
use Prim.Native.Nat.{◌+◌, ◌-◌, ◌<◌}
use mathlib.Core.Path.{◌≡◌}
use native.Mathlib.Omega.{arith}
use lib.IntN.{pos}
use lib.ListN.{get_or}
use mir.Syntax.{w32, w64}
use mir.Val.{SFits}
use Rattle.std.proofs.Common.{rules}
use mir.ValLaws.{to_z-of_z}
use Rattle.bounds.proofs.LineLaws.{midway-none, midway-more, midway-all, leads-none}
use Rattle.bounds.proofs.Moving.{brought-out-movable}
use Rattle.bounds.proofs.line.bounded.Goals as goal

pub returns-then-n-eq0 : goal.returns-then-n-eq0
returns-then-n-eq0 c =
    let a = c.args in
    let e : a.n ≡ 0 = c.if-n-eq0.true in
    λ line s. rw e (leads-none a.interval a.lot line a.held a.ogas.now a.ugas.now)

pub loop-i-init : goal.loop-i-init
loop-i-init c =
    let a = c.args in
    (rw c.movable-last.ensures (brought-out-movable a.held), λ line held same s. rw same (midway-none a.interval a.lot line held a.ogas.now a.ugas.now))

pub loop-i-preserved : goal.loop-i-preserved
loop-i-preserved c =
    let a = c.args in
    let l = c.loop-i in
    let next = c.next_movable-last in
    let r = next.result in
    let from = c.windows-from.result.from in
    let high_fits : SFits w32 (get_or a.highest.now (302 + l.i) (pos 0)) = search rules in
    let low_fits : SFits w32 (get_or a.lowest.now (302 + l.i) (pos 0)) = search rules in
    let high = to_z-of_z w32 (get_or a.highest.now (302 + l.i) (pos 0)) high_fits in
    let low = to_z-of_z w32 (get_or a.lowest.now (302 + l.i) (pos 0)) low_fits in
    let most = to_z-of_z w32 (get_or a.most.now (302 + l.i - from) (pos 0)) (search rules) in
    let least = to_z-of_z w32 (get_or a.least.now (302 + l.i - from) (pos 0)) (search rules) in
    let oga_fits : SFits w64 r.oga.0 = search rules in
    let uga_fits : SFits w64 r.uga.0 = search rules in
    let e = rw (high, low, most, least, c.windows-from.ensures) at next.ensures.0 in (
      next.ensures.1,
      λ line held same s.
          let m = midway-more a.interval a.lot line held a.ogas.now a.ugas.now a.n a.highest.now a.lowest.now a.most.now a.least.now s
          c.requires.n_in_bounds.0 c.requires.n_in_bounds.1 in
          rw (to_z-of_z w64 r.oga.0 oga_fits, to_z-of_z w64 r.uga.0 uga_fits) (m l.last r l.ogas l.ugas l.i c.loop-i-test.true high_fits low_fits e (l.invariant.1 line held same s)),
    )

pub returns : goal.returns
returns c =
    let a = c.args in
    let l = c.loop-i in
    let e : l.i ≡ a.n = omega arith in
    let some : 0 < l.i = omega arith in
    λ line s.
    let m = l.invariant.1 line a.held c.movable-last.ensures s in
    rw e at (midway-all a.interval a.lot line a.held a.ogas.now a.ugas.now l.last l.ogas l.ugas l.i some m)
