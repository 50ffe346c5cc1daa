-- No second answer fits a call of `reading`.
use mathlib.Core.Path.{◌∙◌, sym}
use Rattle.binding.specs.Single.{Single, SingleIn}
use Rattle.reading.proofs.header_line.Reads as header-line
use Rattle.reading.proofs.bounds_line.Reads as bounds-line
use Rattle.reading.proofs.setpoint_line.Reads as setpoint-line
use Rattle.reading.proofs.contract_line.Reads as contract-line
use Rattle.reading.proofs.sample_line.Reads as sample-line
use Rattle.reading.proofs.end_line.Reads as end_line
use Rattle.reading.proofs.identifier.Reads as identifier
use Rattle.reading.proofs.read.Reads as read
use Rattle.reading.proofs.entry.read_entry.Reads as read-entry
use Rattle.reading.proofs.share.whose.Reads as whose
use Rattle.reading.proofs.share.read_asked.Reads as read_asked

header-line-single : Single header-line.Post
header-line-single κs a r r' x x' p q = p ∙ sym q

bounds-line-single : Single bounds-line.Post
bounds-line-single κs a r r' x x' p q = p ∙ sym q

setpoint-line-single : Single setpoint-line.Post
setpoint-line-single κs a r r' x x' p q = p ∙ sym q

contract-line-single : Single contract-line.Post
contract-line-single κs a r r' x x' p q = p ∙ sym q

sample-line-single : Single sample-line.Post
sample-line-single κs a r r' x x' p q = p ∙ sym q

end-line-single : Single end_line.Post
end-line-single κs a r r' x x' p q = p ∙ sym q

identifier-single : SingleIn (λ κs r. r.now) identifier.Post
identifier-single κs a r r' x x' p q = p ∙ sym q

read-single : Single read.Post
read-single κs a r r' x x' p q = p ∙ sym q

read-entry-single : Single read-entry.Post
read-entry-single κs a r r' x x' p q = p ∙ sym q

whose-single : SingleIn (λ κs r. r.now) whose.Post
whose-single κs a r r' x x' p q = p ∙ sym q

read-asked-single : Single read_asked.Post
read-asked-single κs a r r' x x' p q = p ∙ sym q
