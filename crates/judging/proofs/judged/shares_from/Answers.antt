-- `judging::judged::shares_from` meets its contract. Assumes nothing.
use Rattle.std.proofs.Common.{◌≡◌, ◌∙◌, ap, List, ◌++◌, ℤ, pos, drop, replicate}
use Rattle.judging.proofs.JudgedLaws.{filled-rest}
use Rattle.judging.specs.Judged.{shares_from}
use Rattle.judging.proofs.judged.shares_from.Goals as goal

pub returns : goal.returns
unfolding shares_from
returns c =
    ap (λ (l : List ℤ). l ++ drop c.min-held.result (replicate 32 (pos 0))) c.copy_from_slice.ensures.after
    ∙ filled-rest c.args.shares.now c.args.from c.args.n c.min.result c.min-held.result c.min.ensures c.min-held.ensures
