-- `claims::hour::measure` meets its contract. Both series hold the bounds along the setpoints (Following).
-- Assumes nothing.
use Rattle.std.proofs.Common.{◌≤◌, length, take, sym, refl, arith, length-take-le}
use Rattle.vocabulary.specs.Interval.{windows_of}
use Rattle.channel.specs.Along.{Follows}
use Rattle.channel.proofs.AlongLaws.{count-all}
use Rattle.contracts.specs.Terms.{terms_in}
use Rattle.claims.specs.Claims.{samples_of, measured_held}
use Rattle.claims.specs.Room.{Led}
use Rattle.claims.proofs.Following.{quarter-of, samples-led, enough-led, timely, measured-led}
use lib.ListN.{replicate}
use Rattle.std.proofs.Common.{pos}
use Rattle.claims.proofs.hour.measure.Goals.{After-along-after}
use Rattle.claims.proofs.hour.measure.Goals as goal

-- the channel was led along the whole quarter hour
followed : (c : After-along-after)
    → let a = c.args in
    Follows a.channel (take (windows_of a.channel.interval).samples a.setpoints) (replicate 900 (pos 0)) (replicate 900 (pos 0))
    c.along-after.new.ogas c.along-after.new.ugas c.along-after.result
followed c =
    let i = c.args.channel.interval in
    let few = (quarter-of i (windows_of i).samples refl).0 in
    let all = count-all (windows_of i).samples 900 900 few (omega (arith, few)) (omega (arith, few)) in
    rw (c.windows-windows.ensures, c.interval.ensures, all) at c.along-after.ensures

pub both-requires : goal.both-requires
both-requires c =
    let t = (goal.at.both-requires c).After-along-after in
    let a = t.args in
    let ch = a.channel in
    let held : 900 ≤ length a.setpoints = omega arith in
    rw (c.from.ensures, t.windows-windows.ensures, t.interval.ensures, samples-led ch ch.interval a.setpoints a.actuals held (followed t))
    (timely ch ch.interval a.setpoints a.actuals held (omega arith) (omega (arith, t.well_formed)))

pub returns : goal.returns
unfolding measured_held samples_of
returns c =
    let t = (goal.at.returns c).After-along-after in
    let a = t.args in
    let ch = a.channel in
    let held : 900 ≤ length a.setpoints = omega arith in
    rw (c.both.ensures, c.from.ensures, t.windows-windows.ensures, t.interval.ensures)
    (measured-led ch ch.interval a.setpoints a.actuals held (followed t) (terms_in a.positive) (terms_in a.negative))
