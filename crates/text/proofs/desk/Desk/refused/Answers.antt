-- `text::desk::Desk::refused` meets its contract. Assumes nothing.
use Rattle.text.proofs.Telling.{turned}
use Rattle.text.specs.Desk.{refused_turn}
use Rattle.std.proofs.Common.{refl, arith}
use Rattle.text.proofs.desk.Desk.refused.Goals as goal

pub returns : goal.returns
unfolding refused_turn
returns c = let p = c.print_refusal-printed.ensures in turned refl p.answer p.bytes (omega (arith, p.room))
