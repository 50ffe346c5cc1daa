-- `checking::checker::late_share` meets its contract. Assumes nothing.
use Rattle.std.proofs.Common.{◌≡◌, ◌∙◌, rules}
use Rattle.reading.specs.Share.{whose_of}
use Rattle.checking.specs.Checker.{ground_of}
use Rattle.checking.proofs.checker.late_share.Goals as goal

pub returns-in-Settling-clause-is : goal.returns-in-Settling-clause-is
returns-in-Settling-clause-is c = rw (← c.in-Settling.ensures, c.out_of_place.ensures)

pub returns-in_err-share_refusal-in-Share-clause-is : goal.returns-in_err-share_refusal-in-Share-clause-is
returns-in_err-share_refusal-in-Share-clause-is c =
    let a = c.args in
    let told : c.share_refusal.result ≡ ground_of a.run a.given c.in-Share.share (whose_of a.line.now) = c.share_refusal.ensures.is ∙ rw (c.books.ensures, c.end.ensures, c.whose.ensures) in
    rw (← c.in-Share.ensures, ← told, c.in_err-share_refusal-in-Share.was) (search rules)
