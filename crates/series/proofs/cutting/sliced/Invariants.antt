use Rattle.series.proofs.Sums.{Adding}
use Rattle.series.specs.Slices.{sliced_of}
use Rattle.std.proofs.Common.{length, drop}
use Rattle.series.proofs.cutting.sliced.Given as goal

abbrev pub invariant-loop-power : goal.invariant-loop-power
invariant-loop-power l = Adding (length l.powers) (λ k. sliced_of l.low.0 l.high.0 (drop k l.powers)) l.sum l.power-index
