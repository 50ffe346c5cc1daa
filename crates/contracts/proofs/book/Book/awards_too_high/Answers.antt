-- `contracts::book::Book::awards_too_high` meets its contract.
-- Assumes nothing.
use Rattle.std.proofs.Common.{ap, ◌∙◌}
use mir.Facts.{to_z-of_z}
use Rattle.arithmetic.specs.Whole.{up}
use Rattle.contracts.specs.Book.{awards_too_high}
use Rattle.contracts.proofs.book.Book.awards_too_high.Goals as goal

pub returns : goal.returns
unfolding awards_too_high
returns c =
    let e = c.above_zero.ensures ∙ ap up (to_z-of_z c.ranges.award) in
    let f = c.from-added.ensures in
    rw (c.sum_of_awards.ensures.sum, f, e)
