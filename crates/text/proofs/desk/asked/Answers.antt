-- `text::desk::asked` meets its contract. Each line asks what the definition says. Assumes nothing.
use Rattle.text.specs.Serving.{asked_of}
use Rattle.std.proofs.Common.{◌≡◌, to_z, of_z, w32, inl, inr, rules}
use Rattle.text.proofs.desk.asked.Goals as goal

pub returns-in-Header : goal.returns-in-Header
unfolding asked_of
returns-in-Header c = elim c.in-Header.is [ inl header ↦ rw header.1 | inr end ↦ rw end ]

pub returns-in-Bounds : goal.returns-in-Bounds
unfolding asked_of
returns-in-Bounds c = rw c.in-Bounds.is c.bounds.ensures

pub returns-in-Setpoint : goal.returns-in-Setpoint
unfolding asked_of
returns-in-Setpoint c =
    let same : to_z w32 (of_z w32 c.in-Setpoint.setpoint) ≡ c.in-Setpoint.setpoint = search rules in
    let answer = rw same at c.setpoint.ensures in
    rw c.in-Setpoint.is answer

pub returns-in-Contract : goal.returns-in-Contract
unfolding asked_of
returns-in-Contract c = rw (c.in-Contract.is, ← c.identifier.ensures) c.contract.ensures

pub returns-in-Sample : goal.returns-in-Sample
unfolding asked_of
returns-in-Sample c = rw c.in-Sample.is c.sample.ensures

pub returns-in-Malformed : goal.returns-in-Malformed
unfolding asked_of
returns-in-Malformed c = rw c.in-Malformed.is
