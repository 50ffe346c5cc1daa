-- `settlement::run::Run::take` meets its contract: what is taken without the powers of the samples, with these again.
-- Assumes nothing.
use mathlib.Core.Path.{◌≡◌, ap, ◌∙◌}
use Rattle.settlement.specs.Bare.{whole_of, bare_taken_of}
use Rattle.settlement.specs.Run.{taken_of}
use Rattle.settlement.specs.declared.bare.BareTaken.{BareTaken}
use Rattle.settlement.specs.declared.run.Run.{Run}
use Rattle.settlement.specs.declared.run.Taken.{Taken}
use Rattle.settlement.proofs.BareLaws.{taken-whole}
use Rattle.settlement.proofs.run.Run.take.Goals as goal

-- the answer with a run, by what was taken without the powers
answered : Run → BareTaken → Taken
answered run t = record { run = whole_of t.bare run.tape.setpoints run.tape.actuals; refusal = t.refusal; quarter = t.quarter; sheets = t.sheets }

with-powers : (run : Run) {t : BareTaken} → t ≡ bare_taken_of (taken_of run) → answered run t ≡ taken_of run
unfolding answered
with-powers run e = ap (answered run) e ∙ ap (λ (r : Run). record { run = r; refusal = (taken_of run).refusal; quarter = (taken_of run).quarter; sheets = (taken_of run).sheets }) (taken-whole run)

pub returns : goal.returns
unfolding answered
returns c =
    let taken = rw c.bared.ensures at c.take-taken.ensures in
    rw c.whole.ensures (with-powers c.args.self taken)
