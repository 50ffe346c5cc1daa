-- `claims::energies::total` meets its contract.
-- Assumes nothing.
use Rattle.std.proofs.Common.{arith, ◌≡◌, ◌+◌, ℕ, List, [], ◌∷◌, sum, ◌∙◌, zero-add}
use Rattle.std.proofs.lemmas.Iterator.{YieldsList-from_slice}
use Rattle.std.proofs.lemmas.Iterator.Consumers.{sum_from_yields_List, fits_from_yields_list}
use Rattle.std.specs.List.{fold}
use Rattle.series.specs.Sums.{over_of, sum_of}
use Rattle.claims.proofs.energies.total.Goals as goal

summed-from : (n : ℕ) (l : List ℕ) → fold (λ s v. s + v) n l ≡ n + sum_of l
unfolding over_of
summed-from n [] = omega arith
summed-from n (v ∷ l) = omega (arith, summed-from (n + v) l)

sum-is : (l : List ℕ) → sum l ≡ sum_of l
sum-is l = summed-from 0 l ∙ zero-add (sum_of l)

pub sum-requires-clause-fits : goal.sum-requires-clause-fits
sum-requires-clause-fits c = fits_from_yields_list c.iter.result _ (YieldsList-from_slice c.args.sums cc) (omega (arith, sum-is c.args.sums, c.requires))

pub returns : goal.returns
returns c =
    let all : c.sum.result ≡ sum c.args.sums = sum_from_yields_List c.iter.result _ c.sum.ensures.ran (YieldsList-from_slice c.args.sums cc) in
    omega (arith, all, sum-is c.args.sums)

pub overflow_add-result : goal.overflow_add-result
overflow_add-result c =
    let all : c.sum.result ≡ sum c.args.sums = sum_from_yields_List c.iter.result _ c.sum.ensures.ran (YieldsList-from_slice c.args.sums cc) in
    omega (arith, all, sum-is c.args.sums, c.requires)
