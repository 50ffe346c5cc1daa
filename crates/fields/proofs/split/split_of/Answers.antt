-- `fields::split::split_of` meets its contract. The loop's invariant: what is held, with the fields from `from` on, is what is to be held.
-- Assumes nothing.
use Rattle.fields.specs.Split.{no_places}
use Rattle.fields.proofs.SplitLaws.{split-none, split-more, split-counted, split-all}
use Rattle.fields.proofs.split.split_of.Goals.{then-count-lt-KEPT, else-count-lt-KEPT}
use Rattle.fields.proofs.split.split_of.Goals as goal

pub loop-from-init : goal.loop-from-init
unfolding no_places
loop-from-init c = split-none _

pub loop-from-preserved : goal.loop-from-preserved
loop-from-preserved c =
    let ends = c.tab_from-to.ensures in
    let so = c.loop-from.invariant in
    elim c.if-count-lt-KEPT.branch [
      | then-count-lt-KEPT w ↦ rw w.places-is (split-more ends so)
      | else-count-lt-KEPT w ↦ rw w.places-is (split-counted ends so w.if-count-lt-KEPT.false)
    ]

pub returns : goal.returns
returns c = split-all c.loop-from-test.false c.loop-from.invariant
