-- `text::desk::samples` meets its contract. Assumes nothing.
use Rattle.sheets.proofs.Yielding.{too_short}
use Rattle.text.proofs.Telling.{settles}
use Rattle.std.proofs.Common.{refl, arith}
use Rattle.text.proofs.desk.samples.Goals as goal

pub returns-then-out-lt-BUFFER : goal.returns-then-out-lt-BUFFER
returns-then-out-lt-BUFFER c = too_short _ _ _ _ _ _ c.if-out-lt-BUFFER.true refl

pub returns : goal.returns
returns c =
    let at-if1 = c in
    settles _ _ _ (omega (arith, at-if1.if-out-lt-BUFFER.false)) c.take_full.ensures
