-- `print::put_money` meets its contract.
-- Assumes nothing.
use mir.Facts.{to_z-of_z}
use mir.Syntax.{w64}
use mir.Val.{SFits}
use native.Mathlib.Omega.{arith}
use Rattle.print.proofs.Digits.{text-length}
use Rattle.print.proofs.Writing.{join}
use Rattle.std.proofs.Common.{rules}
use Rattle.print.proofs.put_money.Goals as goal

pub returns : goal.returns
returns c =
    let f : SFits w64 c.args.money.0 = search rules in record {
      wrote = join c.put_tab-field.ensures (rw (to_z-of_z f) at c.put_number.ensures);
      short = text-length c.args.money.0 (omega arith);
    }
