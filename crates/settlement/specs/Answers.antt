-- What opening answers.
use Rattle.vocabulary.specs.Refusals.{Ruling}
use Rattle.settlement.specs.declared.run.Run.{Run}

-- a refused opening gives no run: what stands in its place has no quarter hour and refuses every call
pub record Opened : Type 0 where
  pub run : Run
  pub refusal : Ruling
