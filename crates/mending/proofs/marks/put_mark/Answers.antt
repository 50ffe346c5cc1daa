-- `mending::marks::put_mark` meets its contract. Assumes nothing.
use Rattle.sheets.proofs.Fields.{begun, further, ended}
use Rattle.mending.specs.Mending.{mark_text}
use Rattle.std.proofs.Common.{to_z-of_z}
use Rattle.mending.proofs.marks.put_mark.Goals as goal

pub returns : goal.returns
unfolding mark_text
returns c =
    ended (further (further (begun c.put-field.ensures) (rw (to_z-of_z c.ranges.second) at c.put_signed-letter.ensures)) c.put_letter-end.ensures)
    c.put_line_end.ensures
