-- No second answer fits a call of `bounds`: neither the result nor a number of a lent series.
use mathlib.Core.Path.{◌∙◌, sym}
use mathlib.Core.List.{List}
use lib.IntN.{ℤ}
use Rattle.binding.specs.Single.{Single, SingleBytes}
use Rattle.bounds.proofs.side.farther.Reads as farther
use Rattle.bounds.proofs.bound.next_bounds.Reads as next-bounds
use Rattle.bounds.proofs.line.led_count.Reads as led-count
use Rattle.bounds.proofs.line.lead.Reads as lead

farther-single : Single farther.Post
farther-single κs a r r' x x' p q = p ∙ sym q

next-bounds-single : Single next-bounds.Post
next-bounds-single κs a r r' x x' p q = p ∙ sym q

led-count-single : Single led-count.Post
led-count-single κs a r r' x x' p q = p ∙ sym q

lead-single : SingleBytes {B = List ℤ × List ℤ} (λ κs x. (x.1.1.1.1.1.0.now, x.1.1.1.1.1.1.0.now)) lead.Post
lead-single κs a r r' x x' p q = (
  p.last ∙ sym q.last,
  (λ i. ((p.above ∙ sym q.above) i, (p.below ∙ sym q.below) i)),
)
