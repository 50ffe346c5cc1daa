-- `checking::answers::line_answer` meets its contract. Assumes nothing.
use Rattle.std.proofs.Common.{◌≡◌, to_z, of_z, w32, rules}
use Rattle.checking.proofs.answers.line_answer.Goals as goal

pub returns-in-Bounds : goal.returns-in-Bounds
returns-in-Bounds c = rw c.in-Bounds.is c.bounds.ensures

pub returns-in-Setpoint : goal.returns-in-Setpoint
returns-in-Setpoint c =
    let same : to_z w32 (of_z w32 c.in-Setpoint.setpoint) ≡ c.in-Setpoint.setpoint = search rules in
    let answer = rw same at c.setpoint.ensures in
    rw c.in-Setpoint.is answer

pub returns-in-Contract : goal.returns-in-Contract
returns-in-Contract c = rw (c.in-Contract.is, ← c.identifier.ensures) c.contract.ensures

pub returns-in-Sample : goal.returns-in-Sample
returns-in-Sample c = rw c.in-Sample.is c.sample.ensures

pub returns-in-End : goal.returns-in-End
returns-in-End c = rw (c.in-End.is, ← c.end.ensures)
