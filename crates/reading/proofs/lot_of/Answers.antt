-- `reading::lot_of` meets its contract: a hyphen alone, or a number. Assumes nothing.
use Rattle.std.proofs.Common.{rules}
use Rattle.reading.specs.Line.{lot_of}
use Rattle.reading.proofs.lot_of.Goals as goal

pub returns-then-is_letter : goal.returns-then-is_letter
unfolding lot_of
returns-then-is_letter c = rw (← c.is_letter.ensures, c.if-is_letter.true)

pub returns-in_err-number_of : goal.returns-in_err-number_of
unfolding lot_of
returns-in_err-number_of c = rw (c.from_residual.ensures, ← c.is_letter.ensures, c.if-is_letter.false, ← c.in_err-number_of.ensures) (search rules)

pub returns : goal.returns
unfolding lot_of
returns c = rw (← c.is_letter.ensures, c.if-is_letter.false, ← c.in_ok-number_of.ensures) (search rules)
