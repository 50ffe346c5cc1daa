-- `claims::energies::pieces_delivered` meets its contract. What is cut is what was stored.
-- Assumes nothing.
use Rattle.claims.specs.Views.{delivered_of}
use Rattle.series.proofs.Scanned.{each-length}
use Rattle.series.specs.Scan.{each}
use lib.Seq.{take-append_seam}
use Rattle.std.proofs.Common.{length, drop, rules}
use Rattle.claims.proofs.energies.pieces_delivered.Goals as goal

pub returns : goal.returns
returns c =
    let a = c.args in
    let f = delivered_of a.direction in
    let rest = drop (length a.actuals.now) a.series.now in
    let seam = rw (each-length f a.actuals.now) at (take-append_seam (each f a.actuals.now) rest) in
    (rw (c.pieces.ensures, c.delivered.ensures, seam), search rules)
