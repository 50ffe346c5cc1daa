-- No second answer fits a call of `lines`.
use mathlib.Core.Path.{◌∙◌, sym}
use Rattle.binding.specs.Single.{Single}
use Rattle.lines.proofs.Gatherer.new.Reads as new
use Rattle.lines.proofs.Gatherer.fresh.Reads as fresh
use Rattle.lines.proofs.Gatherer.past.Reads as past
use Rattle.lines.proofs.Gatherer.at_start.Reads as at-start
use Rattle.lines.proofs.Gatherer.gather.Reads as gather
use Rattle.lines.proofs.Gatherer.length.Reads as length
use Rattle.lines.proofs.Gatherer.bytes.Reads as bytes
use Rattle.lines.proofs.Gatherer.count.Reads as count

new-single : Single new.Post
new-single κs a r r' x x' p q = p ∙ sym q

fresh-single : Single fresh.Post
fresh-single κs a r r' x x' p q = p ∙ sym q

past-single : Single past.Post
past-single κs a r r' x x' p q = p ∙ sym q

at-start-single : Single at-start.Post
at-start-single κs a r r' x x' p q = p.is ∙ sym q.is

gather-single : Single gather.Post
gather-single κs a r r' x x' p q = p ∙ sym q

length-single : Single length.Post
length-single κs a r r' x x' p q = p ∙ sym q

bytes-single : Single bytes.Post
bytes-single κs a r r' x x' p q = p ∙ sym q

count-single : Single count.Post
count-single κs a r r' x x' p q = p ∙ sym q
