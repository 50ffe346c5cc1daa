use Rattle.std.proofs.Common.{◌≤◌, length}
use Rattle.claims.specs.Powers.{lent}
use Rattle.claims.specs.Room.{Viewed}
use Rattle.claims.proofs.view.viewed.Given as goal

abbrev pub invariant-loop-i : goal.invariant-loop-i
invariant-loop-i l =
    (l.i ≤ length l.samples.setpoints.now)
    × Viewed l.direction (lent l.samples) l.series.asked l.series.accepted l.series.required l.series.inner l.series.kept l.count l.short l.surplus l.under_delivery l.i
