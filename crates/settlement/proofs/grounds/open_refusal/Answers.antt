-- `settlement::grounds::open_refusal` meets its contract: each test is that of the definition, in its order.
-- Assumes nothing.
use Rattle.std.proofs.Common.{rules, w32, to_z, of_z}
use mathlib.Core.Path.{◌≡◌, sym, ◌∙◌}
use lib.IntN.{pos}
use Rattle.arithmetic.specs.Whole.{up, within_of}
use Rattle.arithmetic.proofs.Signed.{back32}
use Rattle.settlement.specs.Calls.{seconds_known, header_grounds}
use Rattle.settlement.specs.Plan.{lot_meant}
use Rattle.settlement.proofs.grounds.open_refusal.Goals.{After-seconds_known, After-within, After-within-2}
use Rattle.settlement.proofs.grounds.open_refusal.Goals as goal

-- what each test says of the definition's
interval-told : (c : After-seconds_known) → c.seconds_known.result ≡ seconds_known (up c.args.header.interval)
interval-told c =
    let z : to_z w32 (of_z w32 c.args.header.interval) ≡ c.args.header.interval = search rules in
    c.seconds_known.ensures ∙ rw (c.above_zero.ensures, z)

pub returns-then-not-seconds_known : goal.returns-then-not-seconds_known
unfolding header_grounds
returns-then-not-seconds_known c = rw (sym (interval-told (goal.at.returns-then-not-seconds_known c).After-seconds_known) ∙ c.if-not-seconds_known.true)

lot-told : (c : After-within) → c.within.result ≡ within_of (pos 1) (lot_meant c.args.header.lot) (pos 1000000)
lot-told c = c.within.ensures ∙ rw (back32 {z = c.lot_meant.result} c.lot_meant.type_inv, c.lot_meant.ensures)

pub returns-then-not-within : goal.returns-then-not-within
unfolding header_grounds
returns-then-not-within c =
    rw (sym (interval-told (goal.at.returns-then-not-within c).After-seconds_known) ∙ c.if-not-seconds_known.false, sym (lot-told (goal.at.returns-then-not-within c).After-within) ∙ c.if-not-within.true)

pub returns-then-not-is_real : goal.returns-then-not-is_real
unfolding header_grounds
returns-then-not-is_real c =
    rw (sym (interval-told (goal.at.returns-then-not-is_real c).After-seconds_known) ∙ c.if-not-seconds_known.false, sym (lot-told (goal.at.returns-then-not-is_real c).After-within) ∙ c.if-not-within.false, sym c.is_real.ensures ∙ c.if-not-is_real.true)

quarters-told : (c : After-within-2) → c.within-2.result
    ≡ within_of (pos 1) c.args.header.quarters (pos 100)
quarters-told c =
    let z : to_z w32 (of_z w32 c.args.header.quarters) ≡ c.args.header.quarters = search rules in
    c.within-2.ensures ∙ rw z

pub returns-then-not-within-2 : goal.returns-then-not-within-2
unfolding header_grounds
returns-then-not-within-2 c =
    rw (
      sym (interval-told (goal.at.returns-then-not-within-2 c).After-seconds_known) ∙ c.if-not-seconds_known.false,
      sym (lot-told (goal.at.returns-then-not-within-2 c).After-within)
          ∙ c.if-not-within.false,
      sym c.is_real.ensures ∙ c.if-not-is_real.false,
      sym (quarters-told (goal.at.returns-then-not-within-2 c).After-within-2) ∙ c.if-not-within-2.true,
    )

pub returns : goal.returns
unfolding header_grounds
returns c =
    rw (
      sym (interval-told (goal.at.returns c).After-seconds_known) ∙ c.if-not-seconds_known.false,
      sym (lot-told (goal.at.returns c).After-within)
          ∙ c.if-not-within.false,
      sym c.is_real.ensures ∙ c.if-not-is_real.false,
      sym (quarters-told (goal.at.returns c).After-within-2) ∙ c.if-not-within-2.false,
    )
