-- `mending::marks::put_sample` meets its contract. Assumes nothing.
use Rattle.std.proofs.Common.{to_z-of_z, w32, SFits, rules}
use Rattle.arithmetic.proofs.Signed.{back}
use Rattle.sheets.proofs.Fields.{begun, further, ended}
use Rattle.mending.specs.Mending.{sample_text}
use Rattle.mending.proofs.marks.put_sample.Goals as goal

pub returns : goal.returns
unfolding sample_text
returns c =
    let f : SFits w32 c.args.sample.setpoint = search rules in
    let g : SFits w32 c.args.sample.actual = search rules in
    ended
    (further
    (further (begun c.put-first.ensures)
    (rw (back {z = c.from.result} c.from.type_inv, c.from.ensures, to_z-of_z f) at c.put_signed-second.ensures))
    (rw (back {z = c.from-2.result} c.from-2.type_inv, c.from-2.ensures, to_z-of_z g) at c.put_signed-end.ensures))
    c.put_line_end.ensures
