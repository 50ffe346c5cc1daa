-- The other direction.
use Rattle.vocabulary.specs.declared.direction.Direction.{Direction}
use Rattle.vocabulary.specs.declared.direction.Direction.TheVariants.{Positive, Negative}

abbrev pub mirror_of : Direction → Direction
mirror_of Positive = Negative
mirror_of Negative = Positive
