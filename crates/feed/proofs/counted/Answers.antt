-- `feed::counted` meets its contract. Assumes nothing.
use Rattle.feed.proofs.ReaderLaws.{counted-steps}
use native.Mathlib.Omega.{arith}
use Rattle.feed.proofs.counted.Goals as goal

pub overflow_add-bare : goal.overflow_add-bare
overflow_add-bare c = omega (arith, c.requires.count_bound)

pub returns : goal.returns
returns c =
    counted-steps c.requires.buffer_length_in_bounds c.samples-told.ensures c.unwrap_or.ensures
