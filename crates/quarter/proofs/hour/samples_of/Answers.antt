-- `quarter::hour::samples_of` meets its contract.
-- Assumes nothing.
use Rattle.claims.specs.Claims.{samples_of}
use Rattle.claims.proofs.Quarters.{samples-few}
use mathlib.Core.Path.{refl}
use Rattle.quarter.proofs.hour.samples_of.Goals as goal

pub returns : goal.returns
unfolding samples_of
returns c =
    let i = c.args.channel.interval in
    rw (c.windows.ensures, c.interval.ensures) (refl, samples-few i)
