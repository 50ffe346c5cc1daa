-- No second answer fits a call of `vocabulary`.
use mathlib.Core.Path.{◌∙◌, sym}
use Rattle.binding.specs.Single.{Single}
use Rattle.vocabulary.proofs.interval.Interval.windows.Reads as windows
use Rattle.vocabulary.proofs.refusal.Refusal.number.Reads as number
use Rattle.vocabulary.proofs.refusal.number.Reads as ruling-number
use Rattle.vocabulary.proofs.stage.Stage.is_closed.Reads as is-closed
use Rattle.vocabulary.proofs.stage.Stage.is_open.Reads as is-open
use Rattle.vocabulary.proofs.sample.in_range.Reads as in-range

number-single : Single number.Post
number-single κs a r r' x x' p q = p ∙ sym q

ruling-number-single : Single ruling-number.Post
ruling-number-single κs a r r' x x' p q = p ∙ sym q

is-closed-single : Single is-closed.Post
is-closed-single κs a r r' x x' p q = p ∙ sym q

is-open-single : Single is-open.Post
is-open-single κs a r r' x x' p q = p ∙ sym q

windows-single : Single windows.Post
windows-single κs a r r' x x' p q = p ∙ sym q

in-range-single : Single in-range.Post
in-range-single κs a r r' x x' p q = p ∙ sym q
