-- No second answer fits a call of `arithmetic`.
use mathlib.Core.Path.{◌≡◌, ◌∙◌, sym, ap}
use Rattle.binding.specs.Single.{Single}
use Rattle.arithmetic.specs.declared.power.Units.{Units}
use Rattle.arithmetic.specs.declared.power.Power.{Power}
use Rattle.arithmetic.proofs.date.Date.is_real.Reads as is_real
use Rattle.arithmetic.proofs.energy.energy.Reads as energy
use Rattle.arithmetic.proofs.money.fee.Reads as fee
use Rattle.arithmetic.proofs.money.penalty.Reads as penalty
use Rattle.arithmetic.proofs.money.plus.Reads as plus
use Rattle.arithmetic.proofs.power.scaled.Reads as scaled
use Rattle.arithmetic.proofs.power.in_units.Reads as in-units
use Rattle.arithmetic.proofs.power.Power.most.Reads as most
use Rattle.arithmetic.proofs.power.Power.least.Reads as least-power
use Rattle.arithmetic.proofs.power.Power.excess.Reads as excess-power
use Rattle.arithmetic.proofs.whole.larger.Reads as larger
use Rattle.arithmetic.proofs.whole.smaller.Reads as smaller
use Rattle.arithmetic.proofs.whole.positive_part.Reads as positive-part
use Rattle.arithmetic.proofs.whole.negative_part.Reads as negative-part
use Rattle.arithmetic.proofs.whole.above_zero.Reads as above_zero
use Rattle.arithmetic.proofs.whole.below_zero.Reads as below-zero
use Rattle.arithmetic.proofs.whole.magnitude.Reads as magnitude
use Rattle.arithmetic.proofs.whole.least.Reads as least
use Rattle.arithmetic.proofs.whole.excess.Reads as excess
use Rattle.arithmetic.proofs.whole.within.Reads as within

pub units-single : {r r' : Units} → r.0 ≡ r'.0 → r ≡ r'
units-single e = ap (λ n. record { 0 = n }) e

pub power-single : {r r' : Power} → r.0 ≡ r'.0 → r ≡ r'
power-single e = ap (λ n. record { 0 = n }) e

is-real-single : Single is_real.Post
is-real-single κs a r r' x x' p q = p ∙ sym q

energy-single : Single energy.Post
energy-single κs a r r' x x' p q = p ∙ sym q

fee-single : Single fee.Post
fee-single κs a r r' x x' p q = p ∙ sym q

penalty-single : Single penalty.Post
penalty-single κs a r r' x x' p q = p ∙ sym q

plus-single : Single plus.Post
plus-single κs a r r' x x' p q = p ∙ sym q

scaled-single : Single scaled.Post
scaled-single κs a r r' x x' p q = units-single (p ∙ sym q)

in-units-single : Single in-units.Post
in-units-single κs a r r' x x' p q = units-single (p ∙ sym q)

most-single : Single most.Post
most-single κs a r r' x x' p q = power-single (p ∙ sym q)

least-power-single : Single least-power.Post
least-power-single κs a r r' x x' p q = power-single (p ∙ sym q)

excess-power-single : Single excess-power.Post
excess-power-single κs a r r' x x' p q = power-single (p ∙ sym q)

larger-single : Single larger.Post
larger-single κs a r r' x x' p q = p ∙ sym q

smaller-single : Single smaller.Post
smaller-single κs a r r' x x' p q = p ∙ sym q

positive-part-single : Single positive-part.Post
positive-part-single κs a r r' x x' p q = p ∙ sym q

negative-part-single : Single negative-part.Post
negative-part-single κs a r r' x x' p q = p ∙ sym q

above-zero-single : Single above_zero.Post
above-zero-single κs a r r' x x' p q = p ∙ sym q

below-zero-single : Single below-zero.Post
below-zero-single κs a r r' x x' p q = p ∙ sym q

magnitude-single : Single magnitude.Post
magnitude-single κs a r r' x x' p q = p ∙ sym q

least-single : Single least.Post
least-single κs a r r' x x' p q = p ∙ sym q

excess-single : Single excess.Post
excess-single κs a r r' x x' p q = p ∙ sym q

within-single : Single within.Post
within-single κs a r r' x x' p q = p ∙ sym q
