-- No second answer fits a call of `claims`.
use mathlib.Core.Path.{◌∙◌, sym}
use Rattle.binding.specs.Single.{Single}
use Rattle.claims.proofs.hour.measure.Reads as measure

measure-single : Single measure.Post
measure-single κs a r r' x x' p q = p ∙ sym q
