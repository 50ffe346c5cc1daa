-- `mending::grid::grid_of` meets its contract. Assumes nothing.
use Rattle.std.proofs.Common.{◌*◌, ap, ◌∙◌, to_z-of_z, w32, SFits, rules}
use Rattle.arithmetic.specs.Whole.{up}
use Rattle.vocabulary.specs.Interval.{windows_of}
use Rattle.settlement.specs.Calls.{interval_of}
use Rattle.mending.specs.Mending.{grid_of}
use Rattle.mending.proofs.grid.grid_of.Goals as goal

pub returns : goal.returns
unfolding grid_of
returns c =
    let f : SFits w32 c.args.header.interval = search rules in
    let g : SFits w32 c.args.header.quarters = search rules in
    let interval = c.interval_of-interval.ensures ∙ ap interval_of (c.above_zero.ensures ∙ ap up (to_z-of_z f)) in
    let windows = c.windows.ensures ∙ ap windows_of interval in
    let quarters = c.above_zero-2.ensures ∙ ap up (to_z-of_z g) in
    λ k. record { interval = interval k; places = quarters k * (windows k).samples }
