-- `checking::checker::Checker::ruled` meets its contract. Assumes nothing.
use Rattle.std.proofs.Common.{◌≡◌, ◌∙◌, rules, eq-eqb, ne_eqb}
use Rattle.settlement.specs.Run.{ended_of}
use Rattle.judging.specs.Kept.{lists_in}
use Rattle.judging.specs.Wanted.{wanted_in}
use Rattle.judging.specs.Judged.{judged_of}
use Rattle.checking.specs.Checker.{ruled_text}
use Rattle.checking.proofs.checker.Checker.ruled.Goals as goal

pub returns-then-wanted-given : goal.returns-then-wanted-given
unfolding ruled_text
returns-then-wanted-given c =
    let run = c.args.self.run in
    let p = c.print_refusal.ensures in
    let same : c.wanted.result ≡ wanted_in run.books (ended_of run).quarters = c.wanted.ensures ∙ rw (c.books-books.ensures, c.end-quarters.ensures) in
    rw (← same, ne_eqb _ _ c.if-wanted-given.true) (record { answer = p.answer; bytes = p.bytes; room = p.room })

pub returns : goal.returns
unfolding ruled_text
returns c =
    let run = c.args.self.run in
    let p = c.print_verdict.ensures in
    let same : c.wanted.result ≡ wanted_in run.books (ended_of run).quarters = c.wanted.ensures ∙ rw (c.books-books.ensures, c.end-quarters.ensures) in
    let verdict : c.judged.result ≡ judged_of run.books (lists_in c.args.lists) (ended_of run).quarters = c.judged.ensures ∙ rw (c.books-books.ensures, c.end-quarters.ensures) in
    rw (← same, eq-eqb _ _ c.if-wanted-given.false, ← verdict) (record { answer = p.answer; bytes = p.bytes; room = p.room })
