-- What the interval fixes of a quarter hour.
-- Assumes nothing.
use Rattle.std.proofs.Common.{◌<◌, ◌≤◌, arith}
use Rattle.vocabulary.specs.declared.interval.Interval.{Interval}
use Rattle.vocabulary.specs.declared.interval.Interval.TheVariants.{One, Three, Four}
use Rattle.vocabulary.specs.Interval.{windows_of}

pub samples-few : (i : Interval) → (windows_of i).samples ≤ 900
samples-few One = omega arith
samples-few Three = omega arith
samples-few Four = omega arith

pub samples-some : (i : Interval) → 0 < (windows_of i).samples
samples-some One = omega arith
samples-some Three = omega arith
samples-some Four = omega arith
