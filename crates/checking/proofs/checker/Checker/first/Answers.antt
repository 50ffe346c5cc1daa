-- `checking::checker::Checker::first` meets its contract. Assumes nothing.
use Rattle.std.proofs.Common.{◌≡◌, ◌∙◌, sym, rules}
use Rattle.reading.specs.Share.{asked_of}
use Rattle.checking.specs.Checker.{stopped_by, unless}
use Rattle.checking.proofs.AnswerLaws.{first-parts, opened-run, opened-refused}
use Rattle.checking.proofs.checker.Checker.first.Goals as goal

pub returns-in_err-header : goal.returns-in_err-header
returns-in_err-header c = λ number. rw (first-parts c.args.self.now.run number (asked_of c.args.line.now), ← c.opens.ensures, c.in_err-header.was) (search rules)

pub returns-in_err-run : goal.returns-in_err-run
returns-in_err-run c =
    let run = c.args.self.now.run in
    λ number.
    let stop : stopped_by run number c.in_err-run.field-0.0 ≡ unless run number c.from_residual-in_err-run.result c.args.self.now = search rules in
    rw (first-parts run number (asked_of c.args.line.now), ← c.opens.ensures, c.in_ok-header.was)
    (opened-refused run number c.in_ok-header.header c.«open».result c.«open».ensures c.in_err-run.field-0.0 c.in_err-run.was ∙ stop)

pub returns : goal.returns
returns c =
    let run = c.args.self.now.run in
    λ number.
    rw (first-parts run number (asked_of c.args.line.now), ← c.opens.ensures, c.in_ok-header.was)
    (opened-run run number c.in_ok-header.header c.«open».result c.«open».ensures c.in_ok-run.run' c.in_ok-run.was ∙ sym c.at.ensures)
