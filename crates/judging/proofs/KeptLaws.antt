-- Whether a ruling refuses, as it is asked and as it is said.
-- Assumes nothing.
use mathlib.Core.Path.{◌≡◌, refl, sym}
use mathlib.Core.Bool.{true, false}
use Rattle.std.specs.Prelude.{Ok, Err}
use Rattle.std.specs.Result.{is_ok}
use Rattle.arithmetic.proofs.Booleans.{true-false}
use Rattle.vocabulary.specs.Refusals.{Ruling, accepted}

pub ok-accepted : (r : Ruling) → is_ok r ≡ true → accepted r ≡ true
ok-accepted (Ok done) e = refl
ok-accepted (Err refusal) e = true-false e refl
