-- `reading::share::whose` meets its contract. Assumes nothing.
use Rattle.reading.specs.Share.{whose_of}
use Rattle.reading.proofs.share.whose.Goals as goal

pub returns : goal.returns
unfolding whose_of
returns c = rw (← c.of.ensures) c.field.ensures
