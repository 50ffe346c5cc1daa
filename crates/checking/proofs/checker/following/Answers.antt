-- `checking::checker::following` meets its contract. Assumes nothing.
use Rattle.std.proofs.Common.{◌≡◌}
use Rattle.reading.specs.declared.Line.TheVariants as L
use Rattle.checking.proofs.checker.following.Goals as goal

pub returns-in-Settling-Sample-clause-is : goal.returns-in-Settling-Sample-clause-is
returns-in-Settling-Sample-clause-is c =
    let said : c.in-Settling-Sample.field-0 ≡ L.Sample c.in-Settling-Sample.field-0-0 = rw c.in-Settling-Sample.is at c.in-Settling-Sample.field-0-is in
    rw (c.in-Settling-Sample.is, said, c.at.ensures) c.taking.ensures.is

pub returns-in-Settling-End-clause-is : goal.returns-in-Settling-End-clause-is
returns-in-Settling-End-clause-is c =
    let said : c.in-Settling-End.field-0 ≡ L.End = rw c.in-Settling-End.is at c.in-Settling-End.field-0-is in
    rw (c.in-Settling-End.is, said, c.at-in-Settling-End.ensures)
