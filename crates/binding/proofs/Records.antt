-- No second answer fits a call of `records`.
use mathlib.Core.Path.{◌∙◌, sym}
use Rattle.binding.specs.Single.{Single}
use Rattle.records.proofs.account.Account.with_sheets.Reads as with-sheets
use Rattle.records.proofs.tape.Tape.with_sample.Reads as with-sample

with-sheets-single : Single with-sheets.Post
with-sheets-single κs a r r' x x' p q = p ∙ sym q

with-sample-single : Single with-sample.Post
with-sample-single κs a r r' x x' p q = p ∙ sym q
