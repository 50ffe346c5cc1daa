-- `feed::line_told` meets its contract. Assumes nothing.
use Rattle.feed.proofs.ReaderLaws.{same_line}
use Rattle.text.proofs.Telling.{as-turn}
use Rattle.std.proofs.Common.{◌≡◌, ℕ, length, min, ap, ◌∙◌, rules}
use Rattle.feed.proofs.line_told.Goals as goal

pub returns : goal.returns
returns c =
    let all : 81 ≡ length c.bytes-bytes.result = search rules in
    let kept = c.min-kept.ensures ∙ ap (λ (n : ℕ). min n 81) c.length.ensures ∙ ap (min c.args.gatherer.length) all in
    as-turn (same_line c.args.desk c.args.gatherer c.bytes-bytes.ensures c.count.ensures kept) c.line.ensures
