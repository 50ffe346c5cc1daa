-- `mendfeed::row_at` meets its contract: the sample that is read is what its line says, and the line makes its turn. Assumes nothing.
use Rattle.std.proofs.Common.{sym, refl, arith}
use Rattle.samples.proofs.RecordedMeaning.{recorded-enters}
use Rattle.mendfeed.proofs.RowLaws.{no-row, a-row, row-runs}
use Rattle.mendfeed.proofs.row_at.Goals as goal

pub returns-then-not-is_ready : goal.returns-then-not-is_ready
returns-then-not-is_ready c = no-row

pub returns-in_err-line : goal.returns-in_err-line
returns-in_err-line c = rw c.from_residual.ensures no-row

pub returns : goal.returns
returns c =
    let line = recorded-enters c.requires.cut _ _ (omega (arith, c.requires.to_lt_end)) (sym c.in_ok-line.ensures) in
    a-row refl (row-runs c.requires.runnable (c.is_ready.ensures c.if-not-is_ready.false) line refl refl c.row-told.ensures)
