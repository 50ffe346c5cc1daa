-- `samples::width_of` meets its contract. Assumes nothing.
use Rattle.std.proofs.Common.{sym}
use Rattle.samples.proofs.FrontScan.{width-at-start, width-too-wide, width-of-held}
use Rattle.samples.proofs.width_of.Goals as goal

pub returns-then-tab-lt7 : goal.returns-then-tab-lt7
returns-then-tab-lt7 c = sym (width-at-start _ _ _ c.if-tab-lt7.true)

pub returns-then-longer : goal.returns-then-longer
returns-then-longer c = sym (width-too-wide _ _ _ c.if-tab-lt7.false c.if-longer.true)

pub returns : goal.returns
returns c = sym (width-of-held _ _ _ c.if-tab-lt7.false c.if-longer.false)
