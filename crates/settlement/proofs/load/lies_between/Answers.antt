-- `settlement::load::lies_between` meets its contract.
-- Assumes nothing.
use Rattle.std.proofs.Common.{rules, ◌≡◌, ◌∙◌, ap, w32, w64, to_z, of_z}
use mir.ValLaws.{to_z-of_z}
use Rattle.arithmetic.specs.Power.{units_of}
use Rattle.arithmetic.specs.Whole.{within_of}
use Rattle.settlement.specs.Load.{between}
use Rattle.settlement.proofs.load.lies_between.Goals as goal

pub returns-then-bounds-units : goal.returns-then-bounds-units
unfolding between within_of
returns-then-bounds-units c =
    let bounds = c.args.bounds in
    let of = c.in_units-units.result.0 in
    let uga : to_z w64 (of_z w64 bounds.uga.0) ≡ bounds.uga.0 = search rules in
    let oga : to_z w64 (of_z w64 bounds.oga.0) ≡ bounds.oga.0 = search rules in
    let units : to_z w64 (of_z w64 of) ≡ of = search rules in
    let told = c.in_units-units.ensures ∙ ap units_of (to_z-of_z w32 c.args.setpoint c.ranges.setpoint) in
    let low = rw (uga, units, told) at c.if-bounds-units.true in
    rw (units, oga, told, low)

pub returns-else-bounds-units : goal.returns-else-bounds-units
unfolding between within_of
returns-else-bounds-units c =
    let bounds = c.args.bounds in
    let of = c.in_units-units.result.0 in
    let uga : to_z w64 (of_z w64 bounds.uga.0) ≡ bounds.uga.0 = search rules in
    let units : to_z w64 (of_z w64 of) ≡ of = search rules in
    let told = c.in_units-units.ensures ∙ ap units_of (to_z-of_z w32 c.args.setpoint c.ranges.setpoint) in
    let low = rw (uga, units, told) at c.if-bounds-units.false in
    rw (uga, units, told, low)
