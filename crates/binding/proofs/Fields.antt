-- No second answer fits a call of `fields`.
use mathlib.Core.Path.{◌∙◌, sym}
use Rattle.binding.specs.Single.{Single, SingleIn}
use Rattle.fields.proofs.day.date_of.Reads as date-of
use Rattle.fields.proofs.number.long_number_of.Reads as long-number-of
use Rattle.fields.proofs.number.number_of.Reads as number-of
use Rattle.fields.proofs.split.split_of.Reads as split-of
use Rattle.fields.proofs.split.Split.field.Reads as field

date-of-single : Single date-of.Post
date-of-single κs a r r' x x' p q = p ∙ sym q

long-number-of-single : Single long-number-of.Post
long-number-of-single κs a r r' x x' p q = p ∙ sym q

number-of-single : Single number-of.Post
number-of-single κs a r r' x x' p q = p ∙ sym q

split-of-single : Single split-of.Post
split-of-single κs a r r' x x' p q = p ∙ sym q

field-single : SingleIn (λ κs r. r.now) field.Post
field-single κs a r r' x x' p q = p.0 ∙ sym q.0
