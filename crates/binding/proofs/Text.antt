-- No second answer fits a call of `text`.
use Prim.Native.Nat.{ℕ}
use mathlib.Core.List.{List}
use mathlib.Core.Path.{◌≡◌, ◌∙◌, sym}
use Rattle.binding.specs.Single.{Single, SingleBytes}
use Rattle.text.specs.Desk.{Turn, Tells}
use Rattle.text.specs.declared.desk.Desk.{Desk}
use Rattle.text.specs.declared.desk.Told.{Told}
use Rattle.text.proofs.desk.Desk.new.Reads as new
use Rattle.text.proofs.desk.Desk.is_closed.Reads as is-closed
use Rattle.text.proofs.desk.samples.Reads as samples
use Rattle.text.proofs.desk.Desk.line.Reads as line
use Rattle.text.proofs.desk.Desk.finish.Reads as finish

told-single : {out b b' : List ℕ} {before : Desk} {turn : Turn} {r r' : Told} → Tells out before turn r b → Tells out before turn r' b' → (r ≡ r') × (b ≡ b')
told-single p q = (p.prints.answer ∙ sym q.prints.answer, p.prints.bytes ∙ sym q.prints.bytes)

new-single : Single new.Post
new-single κs a r r' x x' p q = p ∙ sym q

is-closed-single : Single is-closed.Post
is-closed-single κs a r r' x x' p q = p ∙ sym q

samples-single : SingleBytes (λ κs x. x.1.1.1.0.now) samples.Post
samples-single κs a r r' x x' p q = (p.answer ∙ sym q.answer, p.bytes ∙ sym q.bytes)

line-single : SingleBytes (λ κs x. x.1.1.1.0.now) line.Post
line-single κs a r r' x x' p q = told-single p q

finish-single : SingleBytes (λ κs x. x.1.1.0.now) finish.Post
finish-single κs a r r' x x' p q = told-single p q
