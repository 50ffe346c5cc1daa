-- `text::desk::Desk::quarter` meets its contract. Assumes nothing.
use Rattle.text.proofs.desk.Desk.quarter.Goals as goal

pub returns : goal.returns
returns c =
    let apart = c.apart-bare.ensures in
    let full = rw (apart.rest, apart.powers.0, apart.powers.1) at c.take_full-told.ensures in
    let whole = rw (apart.powers.0, apart.powers.1) at c.whole.ensures in
    rw whole full
