-- `mending::marks::put_filled` meets its contract. Assumes nothing.
use Rattle.sheets.proofs.Fields.{both}
use Rattle.mending.proofs.GridLaws.{seconds-few}
use Rattle.mending.specs.Mending.{item_text}
use Rattle.std.proofs.Common.{◌^◌, ◌≤◌, pos, mul-le-mul, arith, to_z-of_z, w64, SFits}
use Rattle.mending.proofs.marks.put_filled.Goals.{After-seconds_of-second}
use Rattle.mending.proofs.marks.put_filled.Goals as goal

fits-second : (c : After-seconds_of-second) → SFits w64 (pos c.seconds_of-second.result)
fits-second c =
    let p = c.args.place in
    let few : p ≤ 2 ^ 32 = omega (arith, c.ranges.place) in
    record { sfits = omega (arith, c.seconds_of-second.ensures, mul-le-mul few (seconds-few c.args.grid.interval)) }

pub overflow_cast-second : goal.overflow_cast-second
overflow_cast-second c = fits-second (goal.at.overflow_cast-second c).After-seconds_of-second

pub returns : goal.returns
unfolding item_text
returns c =
    let f = fits-second (goal.at.returns c).After-seconds_of-second in
    both (rw (to_z-of_z f, c.seconds_of-second.ensures) at c.put_mark-line.ensures) c.put_sample.ensures
