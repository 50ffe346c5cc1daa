-- `sharefeed::Reader::ended` meets its contract. Assumes nothing.
use Rattle.sharefeed.proofs.Reader.ended.Goals as goal

pub returns-clause-is : goal.returns-clause-is
returns-clause-is c = rw (c.fresh-self.ensures, c.served.ensures.is)
