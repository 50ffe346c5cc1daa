use Rattle.std.proofs.Common.{◌≡◌, [], drop}
use Rattle.lines.specs.Lines.{lines_of}
use Rattle.samples.proofs.complete.Given as goal

abbrev pub invariant-loop-place : goal.invariant-loop-place
invariant-loop-place l = lines_of (drop l.place l.block) ≡ []
