-- `claims::view::amounts_of` meets its contract.
-- Assumes nothing.
use Rattle.claims.specs.Views.{amounts_of}
use Rattle.claims.proofs.view.amounts_of.Goals as goal

pub returns : goal.returns
unfolding amounts_of
returns c =
    rw (
      c.amount.ensures,
      c.amount-2.ensures,
      c.amount-3.ensures,
      c.amount-4.ensures,
      c.amount-5.ensures,
      c.amount-6.ensures,
      c.amount-7.ensures,
    )
