-- `sharefeed::served` meets its contract. Assumes nothing.
use Rattle.std.proofs.Common.{◌≡◌, length, min, ap, ◌∙◌, rules}
use Rattle.judging.proofs.JudgedLaws.{least-take}
use Rattle.sharefeed.proofs.served.Goals as goal

pub returns-clause-is : goal.returns-clause-is
returns-clause-is c =
    let all : 81 ≡ length c.bytes-bytes.result = search rules in
    let kept = c.min-end.ensures ∙ ap (min c.length.result) all in
    rw (← c.bytes-bytes.ensures, ← c.count.ensures, ← c.length.ensures, ← least-take c.bytes-bytes.result c.length.result, ← kept) c.line.ensures.is
