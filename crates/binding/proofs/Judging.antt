-- No second answer fits a call of `judging`.
use mathlib.Core.Path.{refl, ◌∙◌, sym}
use mathlib.Core.List.{[]}
use Rattle.binding.specs.Single.{Single, SingleBytes}
use Rattle.judging.specs.Kept.{keeping, kept_in}
use Rattle.judging.proofs.kept.keep.Reads as keep
use Rattle.judging.proofs.kept.put_share.Reads as put-share
use Rattle.judging.proofs.kept.Kept.keep.Reads as lists-keep
use Rattle.judging.proofs.kept.Kept.put_share.Reads as lists-put-share
use Rattle.judging.proofs.wanted.wanted.Reads as wanted
use Rattle.judging.proofs.wanted.share_refusal.Reads as share-refusal
use Rattle.judging.proofs.wanted.early_refusal.Reads as early-refusal
use Rattle.judging.proofs.judged.judged.Reads as judged

-- every number of the two lent lists
keep-single : SingleBytes (λ κs x. keeping x.0.now x.1.0.now []) keep.Post
keep-single κs a r r' x x' p q = (refl, sym (p []) ∙ q [])

put-share-single : SingleBytes (λ κs x. x.0.now) put-share.Post
put-share-single κs a r r' x x' p q = (refl, p ∙ sym q)

-- and of all three
lists-keep-single : SingleBytes (λ κs x. kept_in x.0.now) lists-keep.Post
lists-keep-single κs a r r' x x' p q = (refl, p.1 ∙ sym q.1)

lists-put-share-single : SingleBytes (λ κs x. kept_in x.0.now) lists-put-share.Post
lists-put-share-single κs a r r' x x' p q = (refl, p.1 ∙ sym q.1)

wanted-single : Single wanted.Post
wanted-single κs a r r' x x' p q = p ∙ sym q

share-refusal-single : Single share-refusal.Post
share-refusal-single κs a r r' x x' p q = p.0 ∙ sym q.0

early-refusal-single : Single early-refusal.Post
early-refusal-single κs a r r' x x' p q = p ∙ sym q

judged-single : Single judged.Post
judged-single κs a r r' x x' p q = p ∙ sym q
