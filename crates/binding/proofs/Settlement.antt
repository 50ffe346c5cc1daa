-- No second answer fits a call of `settlement`.
use mathlib.Core.List.{List, []}
use mathlib.Core.Path.{◌∙◌, sym}
use lib.IntN.{ℤ}
use Rattle.binding.specs.Single.{Single, SingleBytes}
use Rattle.settlement.proofs.run.Run.unopened.Reads as unopened
use Rattle.settlement.proofs.run.Run.open.Reads as opened
use Rattle.settlement.proofs.run.Run.books.Reads as books
use Rattle.settlement.proofs.run.Run.bounds.Reads as bounds
use Rattle.settlement.proofs.run.Run.setpoint.Reads as setpoint
use Rattle.settlement.proofs.run.Run.contract.Reads as contract
use Rattle.settlement.proofs.run.Run.sample.Reads as sample
use Rattle.settlement.proofs.run.Run.apart.Reads as apart
use Rattle.settlement.proofs.bare.Bare.whole.Reads as whole
use Rattle.settlement.proofs.bare.Bare.room.Reads as bare-room
use Rattle.settlement.proofs.bare.Bare.take.Reads as bare-take
use Rattle.settlement.proofs.run.Run.room.Reads as room
use Rattle.settlement.proofs.run.Run.take.Reads as take
use Rattle.settlement.proofs.run.Run.end.Reads as end
use Rattle.settlement.proofs.run.Run.heading.Reads as heading
use Rattle.settlement.proofs.run.Run.lacks.Reads as lacks
use Rattle.settlement.proofs.grounds.open_refusal.Reads as open-refusal
use Rattle.settlement.proofs.plan.interval_of.Reads as interval-of

unopened-single : Single unopened.Post
unopened-single κs a r r' x x' p q = p ∙ sym q

opened-single : Single opened.Post
opened-single κs a r r' x x' p q = p ∙ sym q

books-single : Single books.Post
books-single κs a r r' x x' p q = p ∙ sym q

bounds-single : Single bounds.Post
bounds-single κs a r r' x x' p q = p ∙ sym q

setpoint-single : Single setpoint.Post
setpoint-single κs a r r' x x' p q = p ∙ sym q

contract-single : Single contract.Post
contract-single κs a r r' x x' p q = p ∙ sym q

sample-single : Single sample.Post
sample-single κs a r r' x x' p q = p ∙ sym q

apart-single : SingleBytes {B = List ℤ × List ℤ} (λ κs x. (x.1.0.now, x.1.1.0.now)) apart.Post
apart-single κs a r r' x x' p q = (p.0 ∙ sym q.0, λ i. ((p.1.0 ∙ sym q.1.0) i, (p.1.1 ∙ sym q.1.1) i))

whole-single : Single whole.Post
whole-single κs a r r' x x' p q = p ∙ sym q

bare-room-single : Single bare-room.Post
bare-room-single κs a r r' x x' p q = p [] [] ∙ sym (q [] [])

bare-take-single : Single bare-take.Post
bare-take-single κs a r r' x x' p q = p ∙ sym q

room-single : Single room.Post
room-single κs a r r' x x' p q = p ∙ sym q

take-single : Single take.Post
take-single κs a r r' x x' p q = p ∙ sym q

end-single : Single end.Post
end-single κs a r r' x x' p q = p ∙ sym q

heading-single : Single heading.Post
heading-single κs a r r' x x' p q = p ∙ sym q

open-refusal-single : Single open-refusal.Post
open-refusal-single κs a r r' x x' p q = p ∙ sym q

interval-of-single : Single interval-of.Post
interval-of-single κs a r r' x x' p q = p ∙ sym q

lacks-single : Single lacks.Post
lacks-single κs a r r' x x' p q = p ∙ sym q
