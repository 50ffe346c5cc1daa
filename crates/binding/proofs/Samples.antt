-- No second answer fits a call of `samples`: neither the count nor a number of either series.
use mathlib.Core.Path.{◌∙◌, sym}
use mathlib.Core.List.{List}
use lib.IntN.{ℤ}
use Rattle.binding.specs.Single.{Single, SingleBytes}
use Rattle.samples.proofs.CutLaws.{cut-only}
use Rattle.samples.proofs.complete.Reads as complete
use Rattle.samples.proofs.read_samples.Reads as read-samples
use Rattle.samples.proofs.recorded.recorded_at.Reads as recorded-at

complete-single : Single complete.Post
complete-single κs a r r' x x' p q = cut-only r r' p q

read-samples-single : SingleBytes {B = List ℤ × List ℤ} (λ κs x. (x.1.1.0.now, x.1.1.1.0.now)) read-samples.Post
read-samples-single κs a r r' x x' p q = (
  (λ i. record { samples = (p.samples ∙ sym q.samples) i; bytes = (p.bytes ∙ sym q.bytes) i }),
  (λ i. ((p.setpoints ∙ sym q.setpoints) i, (p.actuals ∙ sym q.actuals) i)),
)

recorded-at-single : Single recorded-at.Post
recorded-at-single κs a r r' x x' p q = p ∙ sym q
