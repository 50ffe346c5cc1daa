-- `reading::entry::read_entry` meets its contract, by the kind of the line. Assumes nothing.
use Rattle.std.proofs.Common.{ap, ◌∙◌, lt-ltb, le-ltb}
use Rattle.reading.specs.Entry.{entry_of, entry_by}
use Rattle.reading.proofs.entry.read_entry.Goals as goal

pub returns-then-line-gt80 : goal.returns-then-line-gt80
unfolding entry_of
returns-then-line-gt80 c = rw (lt-ltb _ _ c.if-line-gt80.true)

pub returns-in-Header : goal.returns-in-Header
unfolding entry_of
returns-in-Header c = rw (le-ltb _ _ c.if-line-gt80.false, ← c.of-line.ensures, ← c.field.ensures, ← c.in-Header.ensures) (c.entry_by.ensures ∙ ap entry_by c.header_from.ensures)

pub returns-in-Recorded : goal.returns-in-Recorded
unfolding entry_of
returns-in-Recorded c = rw (le-ltb _ _ c.if-line-gt80.false, ← c.of-line.ensures, ← c.field.ensures, ← c.in-Recorded.ensures) c.recorded_from.ensures

pub returns-in-End : goal.returns-in-End
unfolding entry_of
returns-in-End c = rw (le-ltb _ _ c.if-line-gt80.false, ← c.of-line.ensures, ← c.field.ensures, ← c.in-End.ensures) (c.entry_by-in-End.ensures ∙ ap entry_by c.end_from.ensures)

pub returns-in-Unknown : goal.returns-in-Unknown
unfolding entry_of
returns-in-Unknown c = rw (le-ltb _ _ c.if-line-gt80.false, ← c.of-line.ensures, ← c.field.ensures, ← c.in-Unknown.ensures)
