use Rattle.std.proofs.Common.{length}
use Rattle.stream.proofs.Blocks.fed.Given as goal

-- whatever comes of the reader at hand by what is left, comes of the first reader by the whole block
abbrev pub invariant-loop-self : goal.invariant-loop-self
invariant-loop-self g l = (last : _) → g.Self.Blocks.through l.self l.left last → g.Self.Blocks.through l.initial.self l.initial.left last

abbrev pub decreases-loop-self : goal.decreases-loop-self
decreases-loop-self g l = length l.left
