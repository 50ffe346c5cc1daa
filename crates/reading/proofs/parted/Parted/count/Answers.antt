-- `reading::parted::Parted::count` meets its contract. Assumes nothing.
use Rattle.fields.proofs.SplitLaws.{split-count}
use Rattle.reading.proofs.parted.Parted.count.Goals as goal

pub returns : goal.returns
returns c = split-count _ c.args.self.its_own
