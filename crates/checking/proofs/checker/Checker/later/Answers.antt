-- `checking::checker::Checker::later` meets its contract. Assumes nothing.
use Rattle.std.proofs.Common.{◌≡◌, ◌∙◌, to_z, of_z, w32, arith, rules}
use Rattle.judging.specs.Kept.{kept_in, with_share}
use Rattle.reading.specs.Share.{asked_of}
use Rattle.checking.proofs.AnswerLaws.{later-parts}
use Rattle.checking.proofs.checker.Checker.later.Goals as goal

pub returns-in_err-kwh-clause-is : goal.returns-in_err-kwh-clause-is
returns-in_err-kwh-clause-is c =
    let a = c.args in
    λ number.
    later-parts (kept_in a.kept.now) a.self.now.run number a.given a.line.now (asked_of a.line.now)
    ∙ rw (← c.late_share.ensures.is, c.in_err-kwh.was) (search rules)

pub overflow_add-self : goal.overflow_add-self
overflow_add-self c = omega (arith, c.in_ok-kwh.ensures.few)

pub returns-clause-is : goal.returns-clause-is
returns-clause-is c =
    let a = c.args in
    let same : to_z w32 (of_z w32 c.in_ok-kwh.kwh) ≡ c.in_ok-kwh.kwh = search rules in
    let put : kept_in c.put_share.new.self ≡ with_share (kept_in a.kept.now) a.given c.in_ok-kwh.kwh = rw same at c.put_share.ensures.is in
    λ number.
    later-parts (kept_in a.kept.now) a.self.now.run number a.given a.line.now (asked_of a.line.now)
    ∙ rw (← c.late_share.ensures.is, c.in_ok-kwh.was) (rw put)
