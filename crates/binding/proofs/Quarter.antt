-- No second answer fits a call of `quarter`.
use mathlib.Core.Path.{◌∙◌, sym}
use Rattle.binding.specs.Single.{Single}
use Rattle.quarter.proofs.hour.samples_of.Reads as samples-of
use Rattle.quarter.proofs.hour.quarter_hour.Reads as quarter-hour
use Rattle.quarter.proofs.sheet.no_sheets.Reads as no-sheets

samples-of-single : Single samples-of.Post
samples-of-single κs a r r' x x' p q = p.0 ∙ sym q.0

quarter-hour-single : Single quarter-hour.Post
quarter-hour-single κs a r r' x x' p q = p ∙ sym q

no-sheets-single : Single no-sheets.Post
no-sheets-single κs a r r' x x' p q = p ∙ sym q
