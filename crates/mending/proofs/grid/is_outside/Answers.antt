-- `mending::grid::is_outside` meets its contract. Assumes nothing.
use Rattle.std.proofs.Common.{◌≡◌, ℕ, ◌*◌, ◌/◌, not, eqb, leb, sym, ap, ◌∙◌, to_z-of_z, le-leb}
use borrow.Author.Tests.{lt-leb}
use Rattle.arithmetic.specs.Whole.{up}
use Rattle.mending.specs.Mending.{seconds_of}
use Rattle.mending.proofs.GridLaws.{below, past_end, by-multiple}
use Rattle.mending.proofs.grid.is_outside.Goals.{After-above_zero-at, After-place_of-place}
use Rattle.mending.proofs.grid.is_outside.Goals as goal

told-second : (c : After-above_zero-at) → c.above_zero-at.result ≡ up c.args.second
told-second c = rw (to_z-of_z c.ranges.second) at c.above_zero-at.ensures

told-place : (c : After-place_of-place) → c.place_of-place.result ≡ up c.args.second / seconds_of c.args.grid
told-place c = c.place_of-place.ensures ∙ ap (λ (n : ℕ). n / seconds_of c.args.grid) (rw (to_z-of_z c.ranges.second) at c.above_zero-at.ensures)

pub returns-then-second-lt0 : goal.returns-then-second-lt0
returns-then-second-lt0 c = sym (below c.args.grid c.args.second (rw (to_z-of_z c.ranges.second) at c.if-second-lt0.true))

pub returns-then-grid-place : goal.returns-then-grid-place
returns-then-grid-place c =
    le-leb _ _ c.if-grid-place.true
    ∙ sym (past_end c.args.grid c.args.second (rw (to_z-of_z c.ranges.second) at c.if-second-lt0.false)
    (ap (leb c.args.grid.places) (sym (told-place (goal.at.returns-then-grid-place c).After-place_of-place)) ∙ le-leb _ _ c.if-grid-place.true))

pub returns-else-grid-place : goal.returns-else-grid-place
returns-else-grid-place c =
    let place = told-place (goal.at.returns-else-grid-place c).After-place_of-place in
    let multiple = c.seconds_of.ensures ∙ ap (λ (p : ℕ). p * seconds_of c.args.grid) place in
    let second = c.from.ensures ∙ told-second (goal.at.returns-else-grid-place c).After-above_zero-at in
    ap not (λ k. eqb (multiple k) (second k))
    ∙ sym (by-multiple c.args.grid c.args.second (rw (to_z-of_z c.ranges.second) at c.if-second-lt0.false)
    (ap (leb c.args.grid.places) (sym place) ∙ lt-leb _ _ c.if-grid-place.false))
