-- `judging::kept::keep` meets its contract. Assumes nothing.
use Prim.Native.Nat.{◌+◌, ◌*◌}
use Rattle.std.proofs.Common.{◌≡◌, ◌∙◌, ap, sym}
use Rattle.judging.specs.Kept.{Kept, keeping, with_row, with_sheets}
use Rattle.judging.proofs.KeptLaws.{ok-accepted}
use Rattle.judging.proofs.kept.keep.Goals as goal

pub returns-then-is_ok : goal.returns-then-is_ok
unfolding with_sheets
returns-then-is_ok c = λ shares.
    let a = c.args in
    let one = keeping c.keep_row.new.gaps c.keep_row.new.surpluses shares in
    let first : with_row (keeping a.gaps.now a.surpluses.now shares) (a.quarter * 2) a.sheets.positive ≡ one = rw c.row_of-above.ensures at c.keep_row.ensures shares in
    let second : with_row one (a.quarter * 2 + 1) a.sheets.negative ≡ keeping c.keep_row-then-is_ok.new.gaps c.keep_row-then-is_ok.new.surpluses shares =
    rw c.row_of-below.ensures at c.keep_row-then-is_ok.ensures shares in
    rw (ok-accepted a.refusal (sym c.is_ok.ensures.value ∙ c.if-is_ok.true)) (ap (λ (k : Kept). with_row k (a.quarter * 2 + 1) a.sheets.negative) first ∙ second)
