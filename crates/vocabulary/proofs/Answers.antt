-- Nothing is refused, or something is.
-- Assumes nothing.
use mathlib.Core.Path.{◌≡◌, refl}
use Rattle.std.specs.Prelude.{Ok, Err}
use mathlib.Core.Bool.{true, false}
use Rattle.arithmetic.proofs.Booleans.{true-false}
use Rattle.vocabulary.specs.declared.refusal.Refusal.{Refusal}
use Rattle.vocabulary.specs.declared.refusal.Refusal.TheVariants.{WrongMoment, BadInterval, BadLot, BadDate, BadQuarters}
use Rattle.vocabulary.specs.declared.refusal.Refusal.TheVariants.{TooManyContracts, BadIdentifier, IdentifierTaken, BadAward, AwardsTooHigh}
use Rattle.vocabulary.specs.declared.refusal.Refusal.TheVariants.{BadPrice, PriceTooLow, BadPower, BadLine, NoEnd, BufferTooShort, BadBlockLength, BadBlockValue}
use Rattle.vocabulary.specs.declared.refusal.Refusal.TheVariants.{NoFirstSample, HoleTooLong, SecondsOutOfOrder, MisplacedShare}
use Rattle.vocabulary.specs.Refusals.{Ruling, accepted}

pub err-refused : (refusal : Refusal) → accepted (Err refusal) ≡ false
err-refused WrongMoment = refl
err-refused BadInterval = refl
err-refused BadLot = refl
err-refused BadDate = refl
err-refused BadQuarters = refl
err-refused TooManyContracts = refl
err-refused BadIdentifier = refl
err-refused IdentifierTaken = refl
err-refused BadAward = refl
err-refused AwardsTooHigh = refl
err-refused BadPrice = refl
err-refused PriceTooLow = refl
err-refused BadPower = refl
err-refused BadLine = refl
err-refused NoEnd = refl
err-refused BufferTooShort = refl
err-refused BadBlockLength = refl
err-refused BadBlockValue = refl
err-refused NoFirstSample = refl
err-refused HoleTooLong = refl
err-refused SecondsOutOfOrder = refl
err-refused MisplacedShare = refl

pub data Answer (r : Ruling) : Type 0 where
  is_none : r ≡ Ok tt → Answer r
  is_some : accepted r ≡ false → Answer r

pub answer : (r : Ruling) → Answer r
answer (Ok done) = is_none refl
answer (Err refusal) = is_some (err-refused refusal)

-- what is accepted is no refusal
pub accepted-none : (r : Ruling) → accepted r ≡ true → r ≡ Ok tt
accepted-none (Ok done) e = refl
accepted-none (Err refusal) e = true-false e (err-refused refusal)
