-- `text::desk::Desk::begun` meets its contract. Assumes nothing.
use Rattle.text.proofs.Telling.{turned}
use Rattle.std.proofs.Common.{refl, arith}
use Rattle.text.proofs.desk.Desk.begun.Goals as goal

pub returns : goal.returns
returns c =
    let p = c.print_head-printed.ensures in
    rw (← c.heading-heading.ensures) (turned refl p.answer p.bytes (omega (arith, p.room)))
