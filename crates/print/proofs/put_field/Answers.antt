-- `print::put_field` meets its contract.
-- Assumes nothing.
use native.Mathlib.Omega.{arith}
use Rattle.print.proofs.Digits.{digits-length}
use Rattle.print.proofs.Writing.{join}
use Rattle.print.proofs.put_field.Goals as goal

pub returns : goal.returns
returns c = record {
  wrote = join c.put_tab-field.ensures c.put_count.ensures;
  short = digits-length 19 c.args.n (omega arith);
}
