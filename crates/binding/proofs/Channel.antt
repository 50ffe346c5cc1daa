-- No second answer fits a call of `channel`.
use mathlib.Core.Path.{◌∙◌, sym}
use mathlib.Core.List.{List}
use lib.IntN.{ℤ}
use Rattle.binding.specs.Single.{Single, SingleBytes}
use Rattle.binding.proofs.Arithmetic.{units-single}
use Rattle.channel.proofs.Channel.new.Reads as new
use Rattle.channel.proofs.Channel.follow.Reads as follow
use Rattle.channel.proofs.Channel.recalled.Reads as recalled
use Rattle.channel.proofs.Channel.bounded.Reads as bounded
use Rattle.channel.proofs.Channel.back.Reads as back
use Rattle.channel.proofs.Channel.along.Reads as along
use Rattle.channel.proofs.Channel.sized.Reads as sized
use Rattle.channel.proofs.Channel.oga.Reads as oga
use Rattle.channel.proofs.Channel.uga.Reads as uga
use Rattle.channel.proofs.Channel.interval.Reads as interval
use Rattle.channel.proofs.Channel.lot.Reads as lot
use Rattle.channel.proofs.tolerance.ogt.Reads as ogt
use Rattle.channel.proofs.tolerance.ugt.Reads as ugt

new-single : Single new.Post
new-single κs a r r' x x' p q = p.0 ∙ sym q.0

follow-single : Single follow.Post
follow-single κs a r r' x x' p q = p.0 ∙ sym q.0

recalled-single : Single recalled.Post
recalled-single κs a r r' x x' p q = p.0 ∙ sym q.0

bounded-single : Single bounded.Post
bounded-single κs a r r' x x' p q = p.0 ∙ sym q.0

back-single : Single back.Post
back-single κs a r r' x x' p q = p ∙ sym q

along-single : SingleBytes {B = List ℤ × List ℤ} (λ κs x. (x.1.1.1.0.now, x.1.1.1.1.0.now)) along.Post
along-single κs a r r' x x' p q = (
  p.channel ∙ sym q.channel,
  (λ i. ((p.above ∙ sym q.above) i, (p.below ∙ sym q.below) i)),
)

sized-single : Single sized.Post
sized-single κs a r r' x x' p q = p.0 ∙ sym q.0

oga-single : Single oga.Post
oga-single κs a r r' x x' p q = p ∙ sym q

uga-single : Single uga.Post
uga-single κs a r r' x x' p q = p ∙ sym q

interval-single : Single interval.Post
interval-single κs a r r' x x' p q = p ∙ sym q

lot-single : Single lot.Post
lot-single κs a r r' x x' p q = p ∙ sym q

ogt-single : Single ogt.Post
ogt-single κs a r r' x x' p q = units-single (p ∙ sym q)

ugt-single : Single ugt.Post
ugt-single κs a r r' x x' p q = units-single (p ∙ sym q)
