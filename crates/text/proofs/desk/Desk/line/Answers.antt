-- `text::desk::Desk::line` meets its contract. Assumes nothing.
use Rattle.text.proofs.Telling.{silent, tells, long-enough, as-turn, line-closed, line-placed}
use Rattle.std.proofs.Common.{sym, ◌∙◌, arith}
use Rattle.text.proofs.desk.Desk.line.Goals as goal

pub returns-then-is_closed : goal.returns-then-is_closed
returns-then-is_closed c = as-turn (sym (line-closed _ (sym c.is_closed.ensures ∙ c.if-is_closed.true) _ _)) (tells (silent _ _) c.silent.ensures)

pub returns-then-out-lt-BUFFER : goal.returns-then-out-lt-BUFFER
returns-then-out-lt-BUFFER c = as-turn (line-placed _ _ _ (sym c.is_closed.ensures ∙ c.if-is_closed.false)) (tells c.turn.ensures c.kept.ensures)

pub returns : goal.returns
returns c = as-turn (line-placed _ _ _ (sym c.is_closed.ensures ∙ c.if-is_closed.false)) (long-enough _ c.turn-2.ensures (omega (arith, c.if-out-lt-BUFFER.false)))
