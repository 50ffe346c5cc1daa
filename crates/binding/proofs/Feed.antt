-- No second answer fits a call of `feed`.
use Rattle.std.specs.Prelude.{ℕ, List}
use mathlib.Core.Path.{◌∙◌, sym}
use Rattle.binding.specs.Single.{Single, SingleBytes}
use Rattle.feed.specs.declared.Reader.{Reader}
use Rattle.feed.proofs.Reader.new.Reads as new
use Rattle.feed.proofs.Reader.is_closed.Reads as is-closed
use Rattle.feed.proofs.Reader.feed.Reads as feed
use Rattle.feed.proofs.Reader.take_in.Reads as take-in
use Rattle.feed.proofs.Reader.finish.Reads as finish

new-single : Single new.Post
new-single κs a r r' x x' p q = p ∙ sym q

is-closed-single : Single is-closed.Post
is-closed-single κs a r r' x x' p q = p ∙ sym q

feed-single : SingleBytes (λ κs x. x.1.1.0.now) feed.Post
feed-single κs a r r' x x' p q = (p.answer ∙ sym q.answer, p.bytes ∙ sym q.bytes)

-- of the reader that is lent, too
take-in-single : SingleBytes {B = Reader × List ℕ} (λ κs x. (x.0.now, x.1.1.0.now)) take-in.Post
take-in-single κs a r r' x x' p q =
    let f = p.answer ∙ sym q.answer in
    (λ i. ((f i).used, (f i).printed), λ i. ((f i).reader, (p.bytes ∙ sym q.bytes) i))

finish-single : SingleBytes (λ κs x. x.1.0.now) finish.Post
finish-single κs a r r' x x' p q = (p.answer ∙ sym q.answer, p.bytes ∙ sym q.bytes)
