use mathlib.Core.List.{List}
use mathlib.Core.Path.{◌≡◌}
use lib.IntN.{ℤ}
use Rattle.vocabulary.specs.declared.acceptance.Bounds.{Bounds}
use Rattle.bounds.specs.Line.{Shown}
use Rattle.bounds.specs.Movable.{MovableBounds, movable_of}
use Rattle.bounds.proofs.LineLaws.{Midway}
use Rattle.bounds.proofs.line.bounded.Given as goal

abbrev pub invariant-loop-i : goal.invariant-loop-i
invariant-loop-i l =
    MovableBounds l.last
    × ((line : List ℤ) (held : Bounds) → l.initial.last ≡ movable_of held → Shown l.interval line l.n l.highest l.lowest l.most l.least
    → Midway l.interval l.lot line held l.initial.ogas l.initial.ugas l.last l.ogas l.ugas l.i)
