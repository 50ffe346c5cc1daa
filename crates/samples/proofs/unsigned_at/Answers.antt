-- `samples::unsigned_at` meets its contract. Assumes nothing.
use Rattle.std.proofs.Common.{get_or, ◌<◌}
use Rattle.samples.proofs.DigitScan.{past-wrapped, first-wrapped}
use Rattle.samples.proofs.UnsignedForm.{no_digit, too_large, in-form}
use Rattle.samples.proofs.unsigned_at.Goals.{then-read-from-via-then-read-from, then-read-from-via-else-read-from+then-read-gt-LARGEST}
use Rattle.samples.proofs.unsigned_at.Goals as goal

pub zero_at-requires-clause-from_value : goal.zero_at-requires-clause-from_value
zero_at-requires-clause-from_value c =
    let few : get_or c.args.bytes.now c.args.from 0 < 256 = (c.type_inv.bytes c.args.from).fits in
    λ l. past-wrapped few (rw c.from-first.ensures at c.if-first-gt8.true) l

pub returns-then-read-from : goal.returns-then-read-from
returns-then-read-from c =
    elim c.then-read-from.branch [
      | then-read-from-via-then-read-from w ↦ no_digit c.digits_at-read.ensures w.if-read-from.true
      | then-read-from-via-else-read-from+then-read-gt-LARGEST w ↦ too_large c.digits_at-read.ensures w.if-read-gt-LARGEST.true
    ]

pub returns : goal.returns
returns c =
    let few : get_or c.args.bytes.now c.args.from 0 < 256 = (c.type_inv.bytes c.args.from).fits in
    in-form c.digits_at-read.ensures c.if-read-from.false c.if-read-gt-LARGEST.false
    (λ z. absurd (first-wrapped few (rw c.from-first.ensures at c.if-first-gt8.false) z))
