-- `values::value::amount` meets its contract, quantity by quantity.
-- Assumes nothing.
use Rattle.std.proofs.Common.{◌≡◌, ℕ, ◌-◌, arith}
use Rattle.arithmetic.specs.Whole.{most_of}
use Rattle.values.proofs.value.amount.Goals as goal

-- what is covered has as much above what is accepted as what is required has
less-accepted : (accepted required : ℕ) → most_of accepted required - accepted ≡ required - accepted
unfolding most_of
less-accepted accepted required = omega arith

pub overflow_sub-result : goal.overflow_sub-result
unfolding most_of
overflow_sub-result c = omega (arith, c.most-covered.ensures)

pub returns-in-UnderDelivery : goal.returns-in-UnderDelivery
returns-in-UnderDelivery c =
    rw (c.in-UnderDelivery.is, c.most-covered.ensures, c.acceptance-accepted.ensures, c.floor-required.ensures) (less-accepted _ _)
