-- `mendfeed::is_ready` meets its contract. Assumes nothing.
use Rattle.std.proofs.Common.{sym, ◌∙◌}
use Rattle.mendfeed.proofs.RowLaws.{open-stage}
use Rattle.mendfeed.proofs.is_ready.Goals as goal

pub returns-then-room-ge-ROOM : goal.returns-then-room-ge-ROOM
returns-then-room-ge-ROOM c = λ e. record { taking = open-stage _ (sym c.is_open.ensures ∙ e); enough = c.if-room-ge-ROOM.true }
