-- Which U lines are wanted: one for each contract and quarter hour, in the order of the K lines (docs/RULES.md, 'Checking shares').
use Rattle.std.specs.Prelude.{ℕ, ◌+◌, ◌*◌, ◌-◌, ◌/◌, ◌%◌, Bool, true, false, cond, not, ◌&&◌, List, [], ◌∷◌, eqb, ltb, ℤ, pos}
use Rattle.std.specs.Int.Signed.{lt_z}
use Rattle.arithmetic.specs.Whole.{up}
use Rattle.vocabulary.specs.declared.direction.Direction.{Direction}
use Rattle.vocabulary.specs.declared.direction.Direction.TheVariants.{Positive, Negative}
use Rattle.vocabulary.specs.declared.refusal.Refusal.TheVariants.{BadIdentifier, BadBlockLength, MisplacedShare}
use Rattle.vocabulary.specs.Refusals.{Ruling}
use Rattle.vocabulary.specs.Grounds.{Ground, on, first}
use Rattle.contracts.specs.Identifier.{well_formed}
use Rattle.contracts.specs.Book.{held_of, names_at}
use Rattle.contracts.specs.Books.{book_in}
use Rattle.contracts.specs.declared.books.Books.{Books}
use Rattle.reading.specs.declared.share.Share.{Share}
use Rattle.settlement.specs.declared.run.Run.{Run}
use Rattle.settlement.specs.Run.{lacks_setpoints}
use Rattle.judging.specs.declared.wanted.Place.{Place}

-- the contracts of a direction, and of both: the U lines of a quarter hour
abbrev pub contracts_in : Direction → Books → ℕ
contracts_in d books = held_of (book_in d books)

abbrev pub per_quarter : Books → ℕ
per_quarter books = contracts_in Positive books + contracts_in Negative books

-- all U lines of so many quarter hours
unfoldable pub wanted_in : Books → ℕ → ℕ
wanted_in books quarters = quarters * per_quarter books

-- what U line n says, counted from 0, where a quarter hour has p contracts P and m contracts N: P before N, each in the order of its list
unfoldable pub place_of : ℕ → ℕ → ℕ → Place
place_of p m n =
    cond (ltb (n % (p + m)) p) (record { quarter = n / (p + m); direction = Positive; contract = n % (p + m) })
    (record { quarter = n / (p + m); direction = Negative; contract = n % (p + m) - p })

abbrev pub place_in : Books → ℕ → Place
place_in books n = place_of (contracts_in Positive books) (contracts_in Negative books) n

-- it says it: the quarter hour, the direction and the identifier of the contract
unfoldable pub is_quarter : ℤ → ℕ → Bool
is_quarter said quarter = not (lt_z said (pos 0)) && eqb (up said) quarter

abbrev pub same_direction : Direction → Direction → Bool
same_direction Positive Positive = true
same_direction Positive Negative = false
same_direction Negative Positive = false
same_direction Negative Negative = true

unfoldable pub says_place : Books → Place → Share → List ℕ → Bool
says_place books place share identifier =
    is_quarter share.quarter place.quarter
    && same_direction share.direction place.direction
    && names_at (book_in place.direction books) place.contract identifier

-- after n U lines: one is still wanted, and it is this one
unfoldable pub is_wanted : Books → ℕ → ℕ → Share → List ℕ → Bool
is_wanted books quarters n share identifier = ltb n (wanted_in books quarters) && says_place books (place_in books n) share identifier

-- why a U line is refused after E: 7, then 22
unfoldable pub share_ground : Books → ℕ → ℕ → Share → List ℕ → Ruling
share_ground books quarters n share identifier =
    first
    (on BadIdentifier (not (well_formed identifier))
    ∷ on MisplacedShare (not (is_wanted books quarters n share identifier))
    ∷ [])

-- and between the header and E: 7, 17 while a block lacks setpoints, and 22
unfoldable pub early_ground : Run → List ℕ → Ruling
early_ground run identifier =
    first
    (on BadIdentifier (not (well_formed identifier))
    ∷ on BadBlockLength (lacks_setpoints run)
    ∷ on MisplacedShare true
    ∷ [])
