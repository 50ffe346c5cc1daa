-- `mending::mender::Mender::line` meets its contract. Assumes nothing.
use Rattle.std.proofs.Common.{sym, refl, ap, ◌∙◌, arith}
use Rattle.vocabulary.specs.declared.stage.Stage.{Stage}
use Rattle.reading.specs.Entry.{entry_of}
use Rattle.mending.specs.Mender.{first_turn, next_turn, turn_at, line_turn}
use Rattle.mending.proofs.TurnLaws.{as-turn, silent}
use Rattle.mending.proofs.mender.Mender.line.Goals as goal

pub returns-in-Empty : goal.returns-in-Empty
unfolding line_turn
returns-in-Empty c =
    let a = c.args in
    as-turn (ap (first_turn a.self a.number) c.read_entry-entry.ensures ∙ ap (λ (s : Stage). turn_at s a.self a.number (entry_of a.line.now)) (sym c.in-Empty.is)) c.first.ensures

pub returns-in-Open : goal.returns-in-Open
unfolding line_turn
returns-in-Open c =
    let a = c.args in
    as-turn (ap (next_turn a.self a.number) c.read_entry-entry.ensures ∙ ap (λ (s : Stage). turn_at s a.self a.number (entry_of a.line.now)) (sym c.in-Open.is)) c.further.ensures

pub returns-in-Closed : goal.returns-in-Closed
unfolding line_turn
returns-in-Closed c =
    let a = c.args in
    as-turn (ap (λ (s : Stage). turn_at s a.self a.number (entry_of a.line.now)) (sym c.in-Closed.is)) (silent (omega arith) (omega arith) refl refl)
