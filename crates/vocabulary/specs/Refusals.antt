-- The numbers of docs/RULES.md, 'Refusals', and 0 where nothing is refused.
use Rattle.std.specs.Prelude.{ℕ, Bool, eqb, Result, Ok, Err}
use Rattle.vocabulary.specs.declared.refusal.Refusal.{Refusal}
use Rattle.vocabulary.specs.declared.refusal.Refusal.TheVariants.{WrongMoment, BadInterval, BadLot, BadDate, BadQuarters}
use Rattle.vocabulary.specs.declared.refusal.Refusal.TheVariants.{TooManyContracts, BadIdentifier, IdentifierTaken, BadAward, AwardsTooHigh}
use Rattle.vocabulary.specs.declared.refusal.Refusal.TheVariants.{BadPrice, PriceTooLow, BadPower, BadLine, NoEnd, BufferTooShort, BadBlockLength, BadBlockValue}
use Rattle.vocabulary.specs.declared.refusal.Refusal.TheVariants.{NoFirstSample, HoleTooLong, SecondsOutOfOrder, MisplacedShare}

-- what is said of a call or a line: nothing is refused, or why it is
abbrev pub Ruling : Type 0
Ruling = Result Unit Refusal

abbrev pub number_of : Ruling → ℕ
number_of (Ok done) = 0
number_of (Err WrongMoment) = 1
number_of (Err BadInterval) = 2
number_of (Err BadLot) = 3
number_of (Err BadDate) = 4
number_of (Err BadQuarters) = 5
number_of (Err TooManyContracts) = 6
number_of (Err BadIdentifier) = 7
number_of (Err IdentifierTaken) = 8
number_of (Err BadAward) = 9
number_of (Err AwardsTooHigh) = 10
number_of (Err BadPrice) = 11
number_of (Err PriceTooLow) = 12
number_of (Err BadPower) = 13
number_of (Err BadLine) = 14
number_of (Err NoEnd) = 15
number_of (Err BufferTooShort) = 16
number_of (Err BadBlockLength) = 17
number_of (Err BadBlockValue) = 18
number_of (Err NoFirstSample) = 19
number_of (Err HoleTooLong) = 20
number_of (Err SecondsOutOfOrder) = 21
number_of (Err MisplacedShare) = 22

-- whether nothing is refused
abbrev pub accepted : Ruling → Bool
accepted ruling = eqb (number_of ruling) 0

-- a value where nothing is refused
abbrev pub allowed : {A : Type 0} → Ruling → A → Result A Refusal
allowed (Ok done) x = Ok x
allowed (Err refusal) x = Err refusal
