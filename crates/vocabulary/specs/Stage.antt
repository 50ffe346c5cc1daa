-- How far an input is.
use Rattle.std.specs.Prelude.{Bool, true, false}
use Rattle.vocabulary.specs.declared.stage.Stage.{Stage}
use Rattle.vocabulary.specs.declared.stage.Stage.TheVariants.{Empty, Open, Closed}

abbrev pub closed_at : Stage → Bool
closed_at Empty = false
closed_at Open = false
closed_at Closed = true

abbrev pub open_at : Stage → Bool
open_at Empty = false
open_at Open = true
open_at Closed = false
