-- `claims::view::viewed` meets its contract. The loop writes down each part that is not idle (Viewing).
-- Assumes nothing.
use Rattle.std.proofs.Common.{rules, ◌≡◌, ◌<◌, ◌≤◌, length, sym, ◌∙◌, arith}
use Rattle.claims.specs.Powers.{lent}
use Rattle.claims.specs.Views.{amounts_of}
use Rattle.claims.specs.Room.{Roomy}
use Rattle.claims.proofs.Viewing.{falls-one, viewed-none, viewed-idle, viewed-more}
use Rattle.claims.proofs.view.viewed.Goals as goal

pub loop-i-init : goal.loop-i-init
loop-i-init c =
    let a = c.args in
    let x = lent a.samples in
    let n = a.series.now in
    let room : Roomy n.asked n.accepted n.required n.inner n.kept =
    record { asked = search rules; accepted = search rules; required = search rules; inner = search rules; kept = search rules } in
    (omega arith, viewed-none a.direction x n.asked n.accepted n.required n.inner n.kept room)

pub loop-i-preserved-then-idle : goal.loop-i-preserved-then-idle
loop-i-preserved-then-idle c =
    let a = c.args in
    let x = lent a.samples in
    let v = c.loop-i in (
      omega arith,
      viewed-idle a.direction x v.series.asked v.series.accepted v.series.required v.series.inner v.series.kept c.faced-part.result v.count v.short
          v.surplus v.under_delivery v.i c.loop-i-test.true c.faced-part.ensures v.invariant.1 (sym c.idle.ensures ∙ c.if-idle.true),
    )

pub loop-i-preserved : goal.loop-i-preserved
unfolding amounts_of
loop-i-preserved c =
    let a = c.args in
    let x = lent a.samples in
    let v = c.loop-i in
    let busy = sym c.idle.ensures ∙ c.if-idle.false in
    rw (c.falls_short-short.ensures, c.amounts_of-amounts.ensures) (
      omega arith,
      viewed-more a.direction x v.series.asked v.series.accepted v.series.required v.series.inner v.series.kept c.faced-part.result v.count v.short v.surplus
          v.under_delivery v.i c.loop-i-test.true c.faced-part.ensures v.invariant.1 c.requires.few busy,
    )

pub returns : goal.returns
returns c =
    let l = c.loop-i in
    let a = c.args in
    let e : l.i ≡ length a.samples.setpoints.now = omega (arith, l.invariant.0, c.loop-i-test.false) in
    rw e at l.invariant.1
