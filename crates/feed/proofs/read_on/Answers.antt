-- `feed::read_on` meets its contract: each step is a step of `feed_of`, and where none follows, what was read and printed is all of it.
-- Assumes nothing.
use Prim.Native.Nat.{ℕ, ◌≤◌}
use mathlib.Core.Path.{sym, subst}
use native.Mathlib.Omega.{arith}
use Rattle.settlement.specs.Bare.{whole_of}
use Rattle.sheets.specs.Buffer.{buffer_length}
use Rattle.feed.proofs.DeskLaws.{room_within}
use Rattle.feed.proofs.ReaderLaws.{come-first, going, done, come-on, one-step, gets-on, samples-there}
use Rattle.feed.proofs.read_on.Goals as goal

pub loop-setpoints-init : goal.loop-setpoints-init
loop-setpoints-init c = (c.requires, come-first _ _ _)

pub next-found-requires : goal.next-found-requires
next-found-requires c =
    let loop = c.loop-setpoints in
    let on = going loop.invariant.1 c.goes_on.ensures c.is_closed.ensures c.loop-setpoints-test.true in record {
      at_in_bounds = on.here;
      room_bound = omega (arith, c.room.ensures loop.setpoints loop.actuals, room_within loop.step.desk.stage (whole_of loop.step.desk.bare loop.setpoints loop.actuals));
    }

pub told_of-step-requires : goal.told_of-step-requires
told_of-step-requires c =
    let loop = c.loop-setpoints in
    let on = going loop.invariant.1 c.goes_on.ensures c.is_closed.ensures c.loop-setpoints-test.true in record {
      samples_bound = samples-there loop.gatherer loop.step.desk _ _ loop.out on.opened on.here (c.room.ensures loop.setpoints loop.actuals) c.next-found.ensures;
      buffer_length_in_bounds = subst (λ (k : ℕ). buffer_length ≤ k) (sym loop.invariant.1.long) loop.invariant.0;
    }

pub overflow_add-i : goal.overflow_add-i
overflow_add-i c =
    let loop = c.loop-setpoints in
    let on = going loop.invariant.1 c.goes_on.ensures c.is_closed.ensures c.loop-setpoints-test.true in
    let got = gets-on loop.gatherer loop.step.desk _ _ on.opened on.here (c.room.ensures loop.setpoints loop.actuals) c.next-found.ensures in
    omega (arith, got.1, c.well_formed)

pub loop-setpoints-smaller : goal.loop-setpoints-smaller
loop-setpoints-smaller c =
    let loop = c.loop-setpoints in
    let on = going loop.invariant.1 c.goes_on.ensures c.is_closed.ensures c.loop-setpoints-test.true in
    let got = gets-on loop.gatherer loop.step.desk _ _ on.opened on.here (c.room.ensures loop.setpoints loop.actuals) c.next-found.ensures in
    omega (arith, got.0, got.1)

pub loop-setpoints-preserved : goal.loop-setpoints-preserved
loop-setpoints-preserved c =
    let loop = c.loop-setpoints in
    let on = going loop.invariant.1 c.goes_on.ensures c.is_closed.ensures c.loop-setpoints-test.true in
    let moves =
    one-step loop.gatherer loop.step.desk _ _ loop.out on.opened on.here (c.room.ensures loop.setpoints loop.actuals) c.next-found.ensures
    c.told_of-step.ensures c.after-gatherer.ensures in
    (loop.invariant.0, come-on _ on moves)

pub shape_of-out : goal.shape_of-out
shape_of-out c = c.loop-setpoints.invariant.1.long

pub returns : goal.returns
returns c = done c.loop-setpoints.invariant.1 c.goes_on.ensures c.is_closed.ensures c.loop-setpoints-test.false
