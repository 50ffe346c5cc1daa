-- `feed::served` meets its contract. Assumes nothing.
use Rattle.feed.proofs.ReaderLaws.{line-steps}
use Rattle.feed.proofs.served.Goals as goal

pub returns : goal.returns
returns c =
    let apart = c.apart.ensures in
    let told = rw c.whole.ensures at c.line_told-told.ensures in
    line-steps c.requires told apart.rest apart.powers.0 apart.powers.1 c.unwrap_or.ensures
