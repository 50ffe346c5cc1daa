-- `judging::wanted::says_place` meets its contract, test by test. Assumes nothing.
use Rattle.judging.specs.Wanted.{is_quarter, same_direction, says_place}
use Rattle.std.proofs.Common.{◌≡◌, ◌∙◌, sym, ◌&&◌, to_z, of_z, w32, rules}
use Rattle.judging.proofs.wanted.says_place.Goals as goal
use Rattle.judging.proofs.wanted.says_place.Goals.{then-is_quarter, else-is_quarter}

pub returns-then-eq : goal.returns-then-eq
unfolding says_place
returns-then-eq c =
    let same : to_z w32 (of_z w32 c.args.share.quarter) ≡ c.args.share.quarter = search rules in
    let quarter = rw same at c.is_quarter.ensures in
    let told : c.if-is_quarter.value ≡ (is_quarter c.args.share.quarter c.args.place.quarter && same_direction c.args.share.direction c.args.place.direction) =
    elim c.if-is_quarter.branch [
      | then-is_quarter w ↦ rw (sym quarter ∙ w.if-is_quarter.true) (search rules)
      | else-is_quarter w ↦ rw (sym quarter ∙ w.if-is_quarter.false) (search rules)
    ] in
    rw (sym told ∙ c.if-eq.true, ← c.book.ensures) c.names.ensures

pub returns-else-eq : goal.returns-else-eq
unfolding says_place
returns-else-eq c =
    let same : to_z w32 (of_z w32 c.args.share.quarter) ≡ c.args.share.quarter = search rules in
    let quarter = rw same at c.is_quarter.ensures in
    let told : c.if-is_quarter.value ≡ (is_quarter c.args.share.quarter c.args.place.quarter && same_direction c.args.share.direction c.args.place.direction) =
    elim c.if-is_quarter.branch [
      | then-is_quarter w ↦ rw (sym quarter ∙ w.if-is_quarter.true) (search rules)
      | else-is_quarter w ↦ rw (sym quarter ∙ w.if-is_quarter.false) (search rules)
    ] in
    rw (sym told ∙ c.if-eq.false) c.if-eq.false
