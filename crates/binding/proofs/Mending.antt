-- No second answer fits a call of `mending`.
use Prim.Native.Nat.{ℕ}
use mathlib.Core.List.{List}
use mathlib.Core.Path.{◌≡◌, ◌∙◌, sym}
use Rattle.binding.specs.Single.{Single, SingleBytes}
use Rattle.print.proofs.Writing.{wrote-only}
use Rattle.mending.specs.Mender.{Turn, Turns}
use Rattle.mending.specs.declared.mender.Told.{Told}
use Rattle.mending.proofs.mender.Mender.new.Reads as new
use Rattle.mending.proofs.mender.Mender.is_closed.Reads as is-closed
use Rattle.mending.proofs.mender.Mender.is_open.Reads as is_open
use Rattle.mending.proofs.mender.Mender.row.Reads as row
use Rattle.mending.proofs.mender.Mender.line.Reads as line
use Rattle.mending.proofs.mender.Mender.finish.Reads as finish

turn-single : {out b b' : List ℕ} {at : ℕ} {turn : Turn} {r r' : Told} → Turns out at turn r b → Turns out at turn r' b' → (r ≡ r') × (b ≡ b')
turn-single p q =
    let printed = wrote-only p.text.wrote q.text.wrote in
    ((λ i. record { mender = (p.mender ∙ sym q.mender) i; next = printed.0 i }), printed.1)

new-single : Single new.Post
new-single κs a r r' x x' p q = p ∙ sym q

is-closed-single : Single is-closed.Post
is-closed-single κs a r r' x x' p q = p ∙ sym q

is-open-single : Single is_open.Post
is-open-single κs a r r' x x' p q = p ∙ sym q

row-single : SingleBytes (λ κs x. x.1.1.1.0.now) row.Post
row-single κs a r r' x x' p q = turn-single p q

line-single : SingleBytes (λ κs x. x.1.1.1.0.now) line.Post
line-single κs a r r' x x' p q = turn-single p q

finish-single : SingleBytes (λ κs x. x.1.1.0.now) finish.Post
finish-single κs a r r' x x' p q = turn-single p q
