-- `sharefeed::Reader::after` meets its contract. Assumes nothing.
use Rattle.sharefeed.proofs.Reader.after.Goals as goal

pub returns-then-part-clause-is : goal.returns-then-part-clause-is
returns-then-part-clause-is c = rw c.if-part.true c.ended.ensures.is

pub returns-else-part-clause-is : goal.returns-else-part-clause-is
returns-else-part-clause-is c = rw c.if-part.false
