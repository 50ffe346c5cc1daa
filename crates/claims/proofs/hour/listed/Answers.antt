-- `claims::hour::listed` meets its contract. The sums are those of the direction (Viewing), they fit, and the energies by them are those of the direction (Portions).
-- Assumes nothing.
use Rattle.std.proofs.Common.{◌≡◌, ◌≤◌, take, ◌∙◌, arith}
use Rattle.contracts.specs.Terms.{terms_in, limits_of}
use Rattle.claims.specs.Powers.{lent, powers_of}
use Rattle.claims.specs.Views.{sums_of}
use Rattle.claims.proofs.Cuts.{held-limits, held-count}
use Rattle.claims.proofs.PowerLaws.{smalls}
use Rattle.claims.proofs.Viewing.{sums-listed}
use Rattle.claims.proofs.Portions.{fit-listed, energies-listed}
use Rattle.claims.proofs.hour.listed.Goals.{After-summed-sums}
use Rattle.claims.proofs.hour.listed.Goals as goal

-- the sums are those of the direction
sums-are : (c : After-summed-sums)
    → let a = c.args in
    c.summed-sums.result ≡ sums_of (powers_of a.direction (lent a.samples)) (limits_of (terms_in a.book))
sums-are c =
    let v = c.viewed-seen in
    let a = c.args in
    let x = lent a.samples in
    let small = smalls a.direction x a.seconds c.requires v.ensures.fitting in
    let limits = held-limits a.book c.held-count.result c.held-count.ensures _ c.limits-upper.result c.limits-upper.ensures c.terms.ensures in
    sums-listed a.direction x (limits_of (terms_in a.book)) _ _ _ _ _ v.result a.seconds small (take c.held-count.result c.limits-upper.result) c.summed-sums.result
    c.requires.level.actuals v.ensures limits c.summed-sums.ensures

pub energies_by-requires : goal.energies_by-requires
energies_by-requires c =
    let v = c.viewed-seen in
    let a = c.args in
    let x = lent a.samples in
    let small = smalls a.direction x a.seconds c.requires v.ensures.fitting in
    let are = sums-are (goal.at.energies_by-requires c).After-summed-sums in
    (c.held-count.ensures.few, fit-listed a.direction x a.seconds (terms_in a.book) small c.summed-sums.result are)

pub returns : goal.returns
returns c =
    let v = c.viewed-seen in
    let a = c.args in
    let x = lent a.samples in
    let small = smalls a.direction x a.seconds c.requires v.ensures.fitting in
    let n = held-count a.book c.held-count.result c.held-count.ensures in
    let are = energies-listed a.direction x a.seconds (terms_in a.book) small (omega (arith, n, c.held-count.ensures.few))
    c.summed-sums.result c.held-count.result (sums-are (goal.at.returns c).After-summed-sums) n in
    c.energies_by.ensures ∙ are
