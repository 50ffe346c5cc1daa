-- No second answer fits a call of `print`.
use Rattle.binding.specs.Single.{SingleBytes}
use Rattle.print.proofs.Writing.{wrote-only}
use Rattle.print.proofs.put.Reads as put
use Rattle.print.proofs.put_bytes.Reads as put-bytes
use Rattle.print.proofs.put_tab.Reads as put-tab
use Rattle.print.proofs.put_line_end.Reads as put-line-end
use Rattle.print.proofs.put_count.Reads as put_count
use Rattle.print.proofs.put_number.Reads as put-number
use Rattle.print.proofs.put_date.Reads as put-date
use Rattle.print.proofs.put_field.Reads as put-field
use Rattle.print.proofs.put_fields.Reads as put-fields
use Rattle.print.proofs.put_money.Reads as put-money

put-single : SingleBytes (λ κs x. x.0.now) put.Post
put-single κs a r r' x x' p q = wrote-only p q

put-bytes-single : SingleBytes (λ κs x. x.0.now) put-bytes.Post
put-bytes-single κs a r r' x x' p q = wrote-only p q

put-tab-single : SingleBytes (λ κs x. x.0.now) put-tab.Post
put-tab-single κs a r r' x x' p q = wrote-only p q

put-line-end-single : SingleBytes (λ κs x. x.0.now) put-line-end.Post
put-line-end-single κs a r r' x x' p q = wrote-only p q

put-count-single : SingleBytes (λ κs x. x.0.now) put_count.Post
put-count-single κs a r r' x x' p q = wrote-only p q

put-number-single : SingleBytes (λ κs x. x.0.now) put-number.Post
put-number-single κs a r r' x x' p q = wrote-only p q

put-date-single : SingleBytes (λ κs x. x.0.now) put-date.Post
put-date-single κs a r r' x x' p q = wrote-only p q

put-field-single : SingleBytes (λ κs x. x.0.now) put-field.Post
put-field-single κs a r r' x x' p q = wrote-only p.0 q.0

put-fields-single : SingleBytes (λ κs x. x.0.now) put-fields.Post
put-fields-single κs a r r' x x' p q = wrote-only p.0 q.0

put-money-single : SingleBytes (λ κs x. x.0.now) put-money.Post
put-money-single κs a r r' x x' p q = wrote-only p.0 q.0
