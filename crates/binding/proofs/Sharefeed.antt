-- No second answer fits a call of `sharefeed`.
use mathlib.Core.Path.{refl, ◌∙◌, sym}
use Rattle.binding.specs.Single.{Single, SingleBytes}
use Rattle.judging.specs.Kept.{Kept, kept_in}
use Rattle.sharefeed.specs.declared.Reader.{Reader}
use Rattle.sharefeed.proofs.Reader.new.Reads as new
use Rattle.sharefeed.proofs.Reader.is_stopped.Reads as is-stopped
use Rattle.sharefeed.proofs.Reader.feed.Reads as feed
use Rattle.sharefeed.proofs.Reader.finish.Reads as finish

new-single : Single new.Post
new-single κs a r r' x x' p q = p ∙ sym q

is-stopped-single : Single is-stopped.Post
is-stopped-single κs a r r' x x' p q = p ∙ sym q

-- the reader, and every number of the three lent lists
feed-single : SingleBytes {B = Reader × Kept} (λ κs x. (x.0.now, kept_in x.1.1.0.now)) feed.Post
feed-single κs a r r' x x' p q = (
  refl,
  λ i. (record { gatherer = ((sym p.1 ∙ q.1) i).gatherer; checker = ((sym p.1 ∙ q.1) i).state.checker }, ((sym p.1 ∙ q.1) i).state.kept),
)

finish-single : SingleBytes (λ κs x. x.1.1.0.now) finish.Post
finish-single κs a r r' x x' p q = (p.answer ∙ sym q.answer, p.bytes ∙ sym q.bytes)
