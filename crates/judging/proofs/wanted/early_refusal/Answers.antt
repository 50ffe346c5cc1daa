-- `judging::wanted::early_refusal` meets its contract, ground by ground. Assumes nothing.
use Rattle.judging.specs.Wanted.{early_ground}
use mathlib.Core.Path.{sym, ◌∙◌}
use borrow.Author.Tests.{not-true, not-false}
use Rattle.std.proofs.Common.{rules}
use Rattle.judging.proofs.wanted.early_refusal.Goals as goal

pub returns-then-not-well_formed : goal.returns-then-not-well_formed
unfolding early_ground
returns-then-not-well_formed c = rw (sym c.well_formed-2.ensures ∙ c.if-not-well_formed.true)

pub returns-then-lacks : goal.returns-then-lacks
unfolding early_ground
returns-then-lacks c = rw (sym c.well_formed-2.ensures ∙ c.if-not-well_formed.false, sym c.lacks.ensures ∙ c.if-lacks.true)

pub returns : goal.returns
unfolding early_ground
returns c = rw (sym c.well_formed-2.ensures ∙ c.if-not-well_formed.false, sym c.lacks.ensures ∙ c.if-lacks.false)
