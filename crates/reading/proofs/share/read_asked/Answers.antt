-- `reading::share::read_asked` meets its contract: a U alone begins a share. Assumes nothing.
use Rattle.std.proofs.Common.{lt-ltb, le-ltb}
use Rattle.reading.specs.Share.{asked_of}
use Rattle.reading.proofs.share.read_asked.Goals as goal

pub returns-then-line-gt80 : goal.returns-then-line-gt80
unfolding asked_of
returns-then-line-gt80 c = rw (lt-ltb _ _ c.if-line-gt80.true)

pub returns-then-is_letter : goal.returns-then-is_letter
unfolding asked_of
returns-then-is_letter c =
    rw (le-ltb _ _ c.if-line-gt80.false, ← c.of-parted.ensures, ← c.field.ensures, ← c.is_letter.ensures, c.if-is_letter.true) c.share_from.ensures

pub returns : goal.returns
unfolding asked_of
returns c =
    rw (c.read.ensures, le-ltb _ _ c.if-line-gt80.false, ← c.of-parted.ensures, ← c.field.ensures, ← c.is_letter.ensures, c.if-is_letter.false)
