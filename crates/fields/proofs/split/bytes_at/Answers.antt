-- `fields::split::bytes_at` meets its contract. Assumes nothing.
use Rattle.std.proofs.Common.{List, ℕ, Bor, refl, ap, ◌∙◌}
use Rattle.fields.proofs.SplitLaws.{lent-part}
use Rattle.fields.proofs.split.bytes_at.Goals as goal

pub returns : goal.returns
returns c = ap (λ (b : Bor (List ℕ)). b.now) c.unwrap_or.ensures ∙ lent-part _ _ _ _ refl c.get.ensures.lookup
