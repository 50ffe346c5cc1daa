-- No second answer fits a call of `shares`.
use mathlib.Core.Path.{◌∙◌, sym}
use Rattle.binding.specs.Single.{Single}
use Rattle.shares.proofs.shares.Reads as shares
use Rattle.shares.proofs.acceptable.acceptable.Reads as acceptable

shares-single : Single shares.Post
shares-single κs a r r' x x' p q = p ∙ sym q

acceptable-single : Single acceptable.Post
acceptable-single κs a r r' x x' p q = p ∙ sym q
