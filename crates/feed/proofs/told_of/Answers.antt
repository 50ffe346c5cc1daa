-- `feed::told_of` meets its contract. Assumes nothing.
use Rattle.feed.proofs.ReaderLaws.{no_steps}
use Rattle.feed.proofs.told_of.Goals as goal

pub counted-requires : goal.counted-requires
counted-requires c = record {
  count_bound = c.requires.samples_bound _ c.in-Samples.is;
  buffer_length_in_bounds = c.requires.buffer_length_in_bounds;
}

pub returns-in-Samples : goal.returns-in-Samples
returns-in-Samples c = rw c.in-Samples.is c.counted.ensures

pub returns-in-Line : goal.returns-in-Line
returns-in-Line c = rw c.in-Line.is c.served.ensures

pub returns-in-Part : goal.returns-in-Part
returns-in-Part c = rw c.in-Part.is (no_steps _ _ _ _)
