-- `mending::marks::put_letter` meets its contract. Assumes nothing.
use Rattle.sheets.proofs.Fields.{field}
use Rattle.std.proofs.Common.{arith}
use Rattle.mending.proofs.marks.put_letter.Goals as goal

pub returns : goal.returns
returns c = field 1 c.put_tab-field.ensures c.put.ensures (omega arith)
