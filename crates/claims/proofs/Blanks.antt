-- How long the arrays of a quarter hour are.
-- Assumes nothing.
use Rattle.std.proofs.Common.{◌≡◌, length, refl}
use Rattle.claims.specs.Blank.{no_claims}

pub claims-32 : length no_claims ≡ 32
unfolding no_claims
claims-32 = refl
