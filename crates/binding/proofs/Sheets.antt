-- No second answer fits a call of `sheets`.
use mathlib.Core.Path.{◌∙◌, sym}
use Rattle.binding.specs.Single.{SingleBytes}
use Rattle.print.proofs.Writing.{wrote-only}
use Rattle.sheets.proofs.print_head.Reads as print-head
use Rattle.sheets.proofs.print_quarter.Reads as print-quarter
use Rattle.sheets.proofs.print_total.Reads as print-total
use Rattle.sheets.proofs.print_block.Reads as print-block
use Rattle.sheets.proofs.print_closing.Reads as print-closing
use Rattle.sheets.proofs.print_refusal.Reads as print-refusal
use Rattle.sheets.proofs.verdict.print_verdict.Reads as print-verdict
use Rattle.sheets.proofs.put_signed.Reads as put-signed
use Rattle.sheets.proofs.put_refusal.Reads as put-refusal

print-head-single : SingleBytes (λ κs x. x.0.now) print-head.Post
print-head-single κs a r r' x x' p q = (p.0 ∙ sym q.0, p.1.0 ∙ sym q.1.0)

print-quarter-single : SingleBytes (λ κs x. x.0.now) print-quarter.Post
print-quarter-single κs a r r' x x' p q = (p.0 ∙ sym q.0, p.1.0 ∙ sym q.1.0)

print-total-single : SingleBytes (λ κs x. x.0.now) print-total.Post
print-total-single κs a r r' x x' p q = (p.0 ∙ sym q.0, p.1.0 ∙ sym q.1.0)

print-block-single : SingleBytes (λ κs x. x.0.now) print-block.Post
print-block-single κs a r r' x x' p q = (p.0 ∙ sym q.0, p.1.0 ∙ sym q.1.0)

print-closing-single : SingleBytes (λ κs x. x.0.now) print-closing.Post
print-closing-single κs a r r' x x' p q = (p.0 ∙ sym q.0, p.1.0 ∙ sym q.1.0)

print-refusal-single : SingleBytes (λ κs x. x.0.now) print-refusal.Post
print-refusal-single κs a r r' x x' p q = (p.0 ∙ sym q.0, p.1.0 ∙ sym q.1.0)

put-signed-single : SingleBytes (λ κs x. x.0.now) put-signed.Post
put-signed-single κs a r r' x x' p q = wrote-only p.text.wrote q.text.wrote

put-refusal-single : SingleBytes (λ κs x. x.0.now) put-refusal.Post
put-refusal-single κs a r r' x x' p q = wrote-only p.wrote q.wrote

print-verdict-single : SingleBytes (λ κs x. x.0.now) print-verdict.Post
print-verdict-single κs a r r' x x' p q = (p.0 ∙ sym q.0, p.1.0 ∙ sym q.1.0)
