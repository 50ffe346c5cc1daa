-- Why something is refused: the listing, which fixes what comes first where several grounds hold, and the first of some grounds (docs/RULES.md, 'Refusals').
use Rattle.std.specs.Prelude.{ℕ, suc, ◌≡◌, Bool, true, false, cond, ◌&&◌, List, [], ◌∷◌, eqb, leb, Ok, Err}
use Rattle.vocabulary.specs.declared.refusal.Refusal.{Refusal}
use Rattle.vocabulary.specs.declared.refusal.Refusal.TheVariants.{WrongMoment, BadInterval, BadLot, BadDate, BadQuarters}
use Rattle.vocabulary.specs.declared.refusal.Refusal.TheVariants.{TooManyContracts, BadIdentifier, IdentifierTaken, BadAward, AwardsTooHigh}
use Rattle.vocabulary.specs.declared.refusal.Refusal.TheVariants.{BadPrice, PriceTooLow, BadPower, BadLine, NoEnd, BufferTooShort, BadBlockLength, BadBlockValue}
use Rattle.vocabulary.specs.declared.refusal.Refusal.TheVariants.{NoFirstSample, HoleTooLong, SecondsOutOfOrder, MisplacedShare}
use Rattle.vocabulary.specs.Refusals.{Ruling, number_of}

-- THE LISTING. A refusal's rank is its place here, not its number
abbrev pub listing : List Refusal
listing =
    WrongMoment
    ∷ BadInterval
    ∷ BadLot
    ∷ BadDate
    ∷ BadQuarters
    ∷ TooManyContracts
    ∷ BadIdentifier
    ∷ IdentifierTaken
    ∷ BadAward
    ∷ AwardsTooHigh
    ∷ BadPrice
    ∷ PriceTooLow
    ∷ BadPower
    ∷ NoFirstSample
    ∷ HoleTooLong
    ∷ SecondsOutOfOrder
    ∷ BadBlockLength
    ∷ BadBlockValue
    ∷ MisplacedShare
    ∷ BadLine
    ∷ NoEnd
    ∷ BufferTooShort
    ∷ []

abbrev pub place_in : List Refusal → Refusal → ℕ
place_in [] refusal = 0
place_in (other ∷ others) refusal = cond (eqb (number_of (Err other)) (number_of (Err refusal))) 0 (suc (place_in others refusal))

abbrev pub rank_of : Refusal → ℕ
rank_of = place_in listing

-- a ground: the refusal that is given where it holds
pub record Ground : Type 0 where
  pub refusal : Refusal
  pub holds : Bool

abbrev pub on : Refusal → Bool → Ground
on refusal holds = record { refusal = refusal; holds = holds }

-- where nothing but one refusal is looked at
abbrev pub only : Refusal → List Ground
only refusal = on refusal true ∷ []

-- the first ground that holds; Ok where none does
abbrev pub first : List Ground → Ruling
first [] = Ok tt
first (ground ∷ grounds) = cond ground.holds (Err ground.refusal) (first grounds)

-- the same as a statement: a refusal is given exactly when its ground holds and none before it does
pub data Earliest : List Ground → Ruling → Type 0 where
  none : Earliest [] (Ok tt)
  here : {ground : Ground} {grounds : List Ground} → ground.holds ≡ true → Earliest (ground ∷ grounds) (Err ground.refusal)
  later : {ground : Ground} {grounds : List Ground} {ruling : Ruling} → ground.holds ≡ false → Earliest grounds ruling → Earliest (ground ∷ grounds) ruling

-- grounds that stand in the order of the listing
abbrev pub ranked : List Ground → Bool
ranked [] = true
ranked (ground ∷ []) = true
ranked (ground ∷ (next ∷ grounds)) = leb (rank_of ground.refusal) (rank_of next.refusal) && ranked (next ∷ grounds)

-- a ground is one of some
pub data Among (ground : Ground) : List Ground → Type 0 where
  at_front : {rest : List Ground} → Among ground (ground ∷ rest)
  further : {other : Ground} {rest : List Ground} → Among ground rest → Among ground (other ∷ rest)
