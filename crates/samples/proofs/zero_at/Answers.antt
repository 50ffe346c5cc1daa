-- `samples::zero_at` meets its contract: 0 alone, or no number. Assumes nothing.
use Rattle.std.proofs.Common.{get_or, ◌+◌, ◌<◌}
use Rattle.samples.proofs.DigitScan.{wrapped-digit, wrapped-other}
use Rattle.samples.proofs.ZeroForm.{no-zero, zero-then-digit, zero-alone}
use Rattle.samples.proofs.zero_at.Goals as goal

pub returns-then-bytes-from-ne48 : goal.returns-then-bytes-from-ne48
returns-then-bytes-from-ne48 c = no-zero c.requires.ended c.requires.from_value c.if-bytes-from-ne48.true

pub returns-then-next-le9 : goal.returns-then-next-le9
returns-then-next-le9 c =
    let few : get_or c.args.bytes.now (c.args.from + 1) 0 < 256 = (c.type_inv.bytes (c.args.from + 1)).fits in
    zero-then-digit c.requires.ended c.if-bytes-from-ne48.false (wrapped-digit few (rw c.from-next.ensures at c.if-next-le9.true))

pub returns : goal.returns
returns c =
    let few : get_or c.args.bytes.now (c.args.from + 1) 0 < 256 = (c.type_inv.bytes (c.args.from + 1)).fits in
    zero-alone c.requires.ended c.if-bytes-from-ne48.false (wrapped-other few (rw c.from-next.ensures at c.if-next-le9.false))
