-- The reader of settlements as one of blocks: what a call uses, and what comes of it. Assumes nothing.
use Rattle.std.proofs.Common.{◌≡◌, ℕ, Ok, length, ap, refl, arith}
use Rattle.sheets.specs.Buffer.{length_of}
use Rattle.sheets.proofs.Yielding.{answers, same_length}
use Rattle.feed.specs.Reader.{feed_of}
use Rattle.feed.specs.declared.Fed.{Fed}
use Rattle.feed.proofs.UsedLaws.{called}
use Rattle.settle.proofs.SettlingBlocks.read.Goals as goal

pub returns-clause-within : goal.returns-clause-within
returns-clause-within c = (called {reader = c.args.self.now.0} {block = c.args.block.now} c.take_in-used.ensures).within

pub returns-clause-some : goal.returns-clause-some
returns-clause-some c = (called {reader = c.args.self.now.0} {block = c.args.block.now} c.take_in-used.ensures).some

pub returns-clause-on : goal.returns-clause-on
returns-clause-on c = λ last. (called {reader = c.args.self.now.0} {block = c.args.block.now} c.take_in-used.ensures).on last.0

-- a buffer of the length that is asked for has room for the text of each call
pub returns-clause-prints : goal.returns-clause-prints
returns-clause-prints c =
    let h = c.requires in
    let y = c.take_in-used.ensures in
    let text = (feed_of c.args.self.now.0 c.args.block.now).text in
    let printed : c.take_in-used.result.1 ≡ Ok (length text) = ap (λ (f : Fed). f.printed) (answers h y) in
    let same : length c.take_in-used.new.out ≡ length c.args.out.now = same_length h y refl in
    (length text, printed, omega (arith, y.room, ap length_of printed, same))
