-- No second answer fits a call of `values`.
use mathlib.Core.Path.{◌∙◌, sym}
use Rattle.binding.specs.Single.{Single}
use Rattle.binding.proofs.Arithmetic.{power-single}
use Rattle.values.proofs.part.facing.Reads as facing
use Rattle.values.proofs.value.amount.Reads as amount

facing-single : Single facing.Post
facing-single κs a r r' x x' p q = p ∙ sym q

amount-single : Single amount.Post
amount-single κs a r r' x x' p q = power-single (p ∙ sym q)
