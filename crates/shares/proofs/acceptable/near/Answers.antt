-- `shares::acceptable::near` meets its contract: test by test it is `near_of`, and a product of two numbers of 32 bits fits.
-- Assumes nothing.
use borrow.Author.Tests.{eq-eqb, ne_eqb}
use Rattle.shares.specs.Acceptable.{near_of}
use Rattle.shares.specs.Shares.{share_floor, remainder}
use Rattle.shares.proofs.acceptable.near.Goals as goal

pub returns-then-kwh-floor : goal.returns-then-kwh-floor
unfolding near_of share_floor
returns-then-kwh-floor c = rw (eq-eqb _ _ c.if-kwh-floor.true)

pub returns-then-not-exact : goal.returns-then-not-exact
unfolding near_of share_floor remainder
returns-then-not-exact c = rw (ne_eqb _ _ c.if-kwh-floor.false, ne_eqb _ _ c.if-not-exact.true)

pub returns-else-not-exact : goal.returns-else-not-exact
unfolding near_of share_floor remainder
returns-else-not-exact c = rw (ne_eqb _ _ c.if-kwh-floor.false, eq-eqb _ _ c.if-not-exact.false)
