-- `mendfeed::Reader::line_at` meets its contract. Assumes nothing.
use Rattle.std.proofs.Common.{refl, arith}
use borrow.Author.Tests.{not-true, not-false}
use Rattle.mendfeed.proofs.ReaderLaws.{rest-of-block, line-of-block}
use Rattle.mendfeed.proofs.Reader.line_at.Goals as goal

pub returns-then-not-part : goal.returns-then-not-part
returns-then-not-part c = rest-of-block c.args.self _ _ _ _ _ c.requires c.gather-part.ensures refl (omega arith) (omega arith) (not-true _ c.if-not-part.true)

pub returns : goal.returns
returns c = line-of-block c.args.self _ _ _ _ _ c.requires c.gather-part.ensures (not-false _ c.if-not-part.false) c.fresh.ensures c.served-told.ensures
