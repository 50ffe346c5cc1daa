use Rattle.vocabulary.specs.declared.interval.Interval.TheVariants.{One}
use Rattle.channel.specs.Start.{fresh}
use Rattle.channel.specs.State.{StandsFor}
use Rattle.figures.specs.Jump.{jump}
use Rattle.figures.proofs.uga_after.Given as goal

abbrev pub invariant-loop-second : goal.invariant-loop-second
invariant-loop-second l = StandsFor One 5000 fresh l.channel (jump l.kw l.second)
