-- What a sample owes ('Values of a sample'): nothing of UGA⁺ is left open.
use Rattle.std.specs.Prelude.{◌≡◌, ◌+ℤ◌}
use Rattle.arithmetic.specs.Whole.{min_z}
use Rattle.values.specs.Values.{Sample, plus, acceptance, under_delivery, shortfall}

-- under-delivery, shortfall and the smaller of acceptance and UGA⁺ make up UGA⁺; of a sample seen from N, whose UGA is −OGA, that is OGA's magnitude where it is below 0
pub record Owed (x : Sample) : Type 0 where
  pub whole : (under_delivery x +ℤ shortfall x) +ℤ min_z (acceptance x) (plus x.uga) ≡ plus x.uga
