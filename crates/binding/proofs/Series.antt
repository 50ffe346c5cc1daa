-- No second answer fits a call of `series`.
use mathlib.Core.Path.{◌∙◌, sym}
use Rattle.binding.specs.Single.{Single}
use Rattle.series.proofs.cutting.cut.Reads as cut

cut-single : Single cut.Post
cut-single κs a r r' x x' p q = p ∙ sym q
