-- `contracts::book::contract` meets its contract.
-- Assumes nothing.
use mathlib.Core.Path.{ap, ◌∙◌}
use mir.Facts.{to_z-of_z}
use Rattle.arithmetic.specs.Whole.{up}
use Rattle.contracts.specs.Book.{contract_of}
use Rattle.contracts.proofs.book.contract.Goals as goal

pub returns : goal.returns
unfolding contract_of
returns c =
    let f = c.ranges in
    let e = c.above_zero.ensures ∙ ap up (to_z-of_z f.award) in
    rw (c.padded.ensures, c.kept_length.ensures, e, to_z-of_z f.price)
