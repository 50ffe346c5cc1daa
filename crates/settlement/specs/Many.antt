-- Several samples at once: what `sample` makes of one after the other.
use Rattle.std.specs.Prelude.{ℕ, ◌-◌, cond, List, [], ◌∷◌, eqb, leb, Ok}
use Rattle.vocabulary.specs.Refusals.{accepted}
use Rattle.vocabulary.specs.declared.sample.Sample.{Sample}
use Rattle.claims.specs.Claims.{samples_of}
use Rattle.settlement.specs.declared.run.Run.{Run}
use Rattle.settlement.specs.declared.run.Answer.{Answer}
use Rattle.settlement.specs.Run.{sampled_of}

-- how many samples the quarter hour at hand still takes: none while a block lacks setpoints
unfoldable pub room_of : Run → ℕ
room_of run = cond (eqb run.load.left 0) (cond (leb run.plan.quarters run.account.taken) 0 (samples_of run.past - run.tape.filled)) 0

-- one after the other, until one is refused
abbrev pub unless_refused : Answer → Answer → Answer
unless_refused answer next = cond (accepted answer.refusal) next answer

unfoldable pub many_of : Run → List Sample → Answer
many_of run [] = record { run = run; refusal = Ok tt }
many_of run (s ∷ ss) =
    unless_refused (sampled_of run s.setpoint s.actual) (many_of (sampled_of run s.setpoint s.actual).run ss)
