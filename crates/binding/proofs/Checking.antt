-- No second answer fits a call of `checking`.
use mathlib.Core.Path.{refl, ◌∙◌, sym}
use Rattle.binding.specs.Single.{Single, SingleBytes}
use Rattle.judging.specs.Kept.{Kept, kept_in}
use Rattle.checking.specs.declared.checker.Checker.{Checker}
use Rattle.checking.proofs.checker.Checker.new.Reads as new
use Rattle.checking.proofs.checker.Checker.line.Reads as line
use Rattle.checking.proofs.checker.Checker.is_stopped.Reads as is-stopped
use Rattle.checking.proofs.checker.Checker.finish.Reads as finish

new-single : Single new.Post
new-single κs a r r' x x' p q = p ∙ sym q

-- the checker, and every number of the three lent lists
line-single : SingleBytes {B = Checker × Kept} (λ κs x. (x.0.now, kept_in x.1.1.1.0.now)) line.Post
line-single κs a r r' x x' p q = (refl, λ i. (((sym p.1 ∙ q.1) i).checker, ((sym p.1 ∙ q.1) i).kept))

is-stopped-single : Single is-stopped.Post
is-stopped-single κs a r r' x x' p q = p ∙ sym q

finish-single : SingleBytes (λ κs x. x.1.1.1.0.now) finish.Post
finish-single κs a r r' x x' p q = (p.answer ∙ sym q.answer, p.bytes ∙ sym q.bytes)
