-- `claims::view::delivered` meets its contract. The loop stores what a direction sees of each actual.
-- Assumes nothing.
use Rattle.std.proofs.Common.{ℕ, List, ◌++◌, length, get_or, drop, pos, ap, ◌∙◌, w32}
use mir.ValLaws.{to_z-of_z}
use borrow.Author.Rules.{sfits_of}
use Rattle.series.proofs.Scanned.{mapped-more, scanned-all, outputs-each}
use Rattle.claims.specs.Views.{delivered_of}
use Rattle.claims.proofs.view.delivered.Goals as goal

pub loop-i-preserved : goal.loop-i-preserved
loop-i-preserved c =
    let a = c.args in
    let l = c.loop-i in
    rw (c.delivered_at.ensures, to_z-of_z w32 (get_or a.actuals.now l.i (pos 0)) (sfits_of c.delivered_at-arg-1.given))
    (mapped-more (delivered_of a.direction) a.actuals.now a.out.now l.out l.i (pos 0) c.requires c.loop-i-test.true l.invariant)

pub returns : goal.returns
returns c =
    let a = c.args in
    let l = c.loop-i in
    let all = a.actuals.now in
    let rest : List ℕ = drop (length all) a.out.now in
    scanned-all _ _ 0 all a.out.now 0 l.out l.i c.loop-i-test.false l.invariant
    ∙ ap (λ (done : List ℕ). done ++ rest) (outputs-each _ (delivered_of a.direction) 0 all)
