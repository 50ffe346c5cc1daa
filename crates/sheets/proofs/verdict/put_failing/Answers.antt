-- `sheets::verdict::put_failing` meets its contract. Assumes nothing.
use Rattle.sheets.proofs.Fields.{ended}
use Rattle.sheets.specs.Verdict.{failing_text}
use Rattle.sheets.proofs.verdict.put_failing.Goals as goal

pub returns : goal.returns
unfolding failing_text
returns c = ended c.put_start-end.ensures c.put_line_end.ensures
