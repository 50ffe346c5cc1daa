-- `checking::checker::Checker::finish` meets its contract. Assumes nothing.
use Rattle.std.proofs.Common.{◌+◌, ◌%◌, ◌^◌}
use Rattle.judging.specs.Kept.{lists_in}
use Rattle.checking.specs.Checker.{standing, finish_text}
use Rattle.checking.proofs.AnswerLaws.{finish-parts}
use Rattle.checking.proofs.checker.Checker.finish.Goals as goal

pub returns-in-Ok : goal.returns-in-Ok
unfolding finish_text
returns-in-Ok c =
    let a = c.args in
    let s = standing a.self (lists_in a.lists) in
    rw (finish-parts a.self.stage s ((a.count + 1) % 2 ^ 64), ← c.in-Ok.ensures) c.ruled.ensures

pub returns-in-Err : goal.returns-in-Err
unfolding finish_text
returns-in-Err c =
    let a = c.args in
    let s = standing a.self (lists_in a.lists) in
    let p = c.print_refusal.ensures in
    rw (finish-parts a.self.stage s ((a.count + 1) % 2 ^ 64), ← c.in-Err.ensures) (record { answer = p.answer; bytes = p.bytes; room = p.room })
