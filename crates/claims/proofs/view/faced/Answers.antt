-- `claims::view::faced` meets its contract.
-- Assumes nothing.
use Rattle.std.proofs.Common.{get_or, pos, w32, w64}
use mir.ValLaws.{to_z-of_z}
use borrow.Author.Rules.{sfits_of}
use Rattle.claims.proofs.view.faced.Goals as goal

pub returns : goal.returns
returns c =
    let a = c.args in
    let s = get_or a.samples.setpoints.now a.i (pos 0) in
    let v = get_or a.samples.actuals.now a.i (pos 0) in
    let fs = sfits_of c.facing-arg-1.given in
    let fv = sfits_of c.facing-arg-2-1.given in
    let o = to_z-of_z w64 (get_or a.samples.ogas.now a.i (pos 0)) (sfits_of c.facing-arg-3-1.given) in
    let u = to_z-of_z w64 (get_or a.samples.ugas.now a.i (pos 0)) (sfits_of c.facing-arg-4-1.given) in
    record { part = rw (c.facing.ensures, to_z-of_z w32 s fs, to_z-of_z w32 v fv, o, u); setpoint = fs; actual = fv }
