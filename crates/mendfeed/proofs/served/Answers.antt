-- `mendfeed::served` meets its contract. Assumes nothing.
use Rattle.std.proofs.Common.{◌≡◌, ℕ, length, min, ap, ◌∙◌, rules}
use Rattle.mending.proofs.TurnLaws.{as-turn}
use Rattle.mendfeed.proofs.ReaderLaws.{same_line}
use Rattle.mendfeed.proofs.served.Goals as goal

pub returns : goal.returns
returns c =
    let all : 81 ≡ length c.bytes-bytes.result = search rules in
    let kept = c.min-kept.ensures ∙ ap (λ (n : ℕ). min n 81) c.length.ensures ∙ ap (min c.args.gatherer.length) all in
    as-turn (same_line c.args.mender c.args.gatherer c.bytes-bytes.ensures c.count.ensures kept) c.line.ensures
