-- `text::desk::take_full` meets its contract. Assumes nothing.
use Rattle.settlement.specs.Bare.{whole_of}
use Rattle.settlement.specs.Many.{room_of}
use Rattle.settlement.specs.declared.bare.BareTaken.{BareTaken}
use Rattle.text.proofs.Telling.{silent, as-turned, waits, taken-told, refused-err, accepted-ok}
use Rattle.text.specs.Desk.{quarter_turn}
use Rattle.std.proofs.Common.{◌<◌, sym, ap, ◌∙◌, arith}
use Rattle.text.proofs.desk.take_full.Goals as goal

pub returns-then-room-ne0 : goal.returns-then-room-ne0
returns-then-room-ne0 c =
    let run = whole_of c.args.bare c.args.setpoints.now c.args.actuals.now in
    let room : 0 < room_of run = omega (arith, c.room.ensures c.args.setpoints.now c.args.actuals.now) in
    as-turned (sym (waits run room)) (silent _ _)

pub returns-then-is_err : goal.returns-then-is_err
unfolding quarter_turn
returns-then-is_err c =
    let not = refused-err c.take-taken.result.refusal (sym c.is_err.ensures.value ∙ c.if-is_err.true) in
    rw (← ap (λ (t : BareTaken). t.refusal) c.take-taken.ensures, not) (silent _ _)

pub returns : goal.returns
returns c =
    let printed = c.print_quarter.ensures in
    let fits = accepted-ok c.take-taken.result.refusal (sym c.is_err.ensures.value ∙ c.if-is_err.false) in
    taken-told _ _ _ c.take-taken.ensures fits printed.answer printed.bytes printed.room
