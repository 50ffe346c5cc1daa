use Rattle.std.proofs.Common.{◌≡◌, ℕ, List, length as size, drop}
use Rattle.lines.specs.declared.Gatherer.{Gatherer}
use Rattle.lines.specs.Gathering.{further, gathered_of}
use Rattle.lines.proofs.Gatherer.gather.Given as goal

abbrev pub at-hand : List ℕ → ℕ → ℕ → Gatherer
at-hand bytes length count = record { bytes = bytes; length = length; count = count }

abbrev pub invariant-loop-i : goal.invariant-loop-i
invariant-loop-i l =
    (size l.bytes ≡ 81)
    × (gathered_of (at-hand l.initial.bytes l.initial.length l.count) l.block ≡ further l.i (gathered_of (at-hand l.bytes l.length l.count) (drop l.i l.block)))
