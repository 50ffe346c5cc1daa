-- `text::desk::Desk::finish` meets its contract. Assumes nothing.
use Rattle.text.proofs.Telling.{silent, tells, as-turn, finish-closed, finish-open}
use Rattle.std.proofs.Common.{sym, ◌∙◌}
use Rattle.text.proofs.desk.Desk.finish.Goals as goal

pub returns-then-is_closed : goal.returns-then-is_closed
returns-then-is_closed c = as-turn (sym (finish-closed _ (sym c.is_closed.ensures ∙ c.if-is_closed.true) _)) (tells (silent _ _) c.silent.ensures)

pub returns : goal.returns
returns c = as-turn (finish-open _ _ (sym c.is_closed.ensures ∙ c.if-is_closed.false)) (tells c.refused.ensures c.kept.ensures)
