-- `sheets::verdict::put_accepted` meets its contract. Assumes nothing.
use Rattle.sheets.proofs.Fields.{number, begun, further, ended}
use Rattle.sheets.specs.Verdict.{accepted_text}
use Rattle.sheets.proofs.verdict.put_accepted.Goals as goal

pub returns : goal.returns
unfolding accepted_text
returns c =
    ended (further (begun c.put-count.ensures) (number (rw c.from.ensures at c.put_field-end.ensures.wrote, rw c.from.ensures at c.put_field-end.ensures.short))) c.put_line_end.ensures
