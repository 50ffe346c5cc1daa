-- The shares of an operator that are checked: what is wanted of them, and which quarter hour and direction is the first that does not hold (docs/RULES.md, 'Shares').
use Rattle.std.specs.Prelude.{ℕ, zero, suc, ◌+◌, ◌*◌, Bool, cond, List, [], ◌∷◌, ◌++◌, ℤ, length, take, drop}
use Rattle.series.specs.Scan.{each}
use Rattle.shares.specs.Acceptable.{Acceptable, acceptable_of}
use Rattle.vocabulary.specs.declared.direction.Direction.{Direction}
use Rattle.vocabulary.specs.declared.direction.Direction.TheVariants.{Positive, Negative}
use Rattle.meaning.specs.Figures.{gap_of_claim}
use Rattle.meaning.specs.Given.{Deal, Given, deals_in, quarters_in, claims_in, pool_in}
use Rattle.sheets.specs.declared.verdict.Verdict.{Verdict}
use Rattle.sheets.specs.declared.verdict.Verdict.TheVariants.{Accepted, Failing}

-- ---- the U lines that are wanted: one for each K line, in the order of the K lines

pub record Wanted : Type 0 where
  pub quarter : ℕ
  pub direction : Direction
  pub identifier : List ℕ

abbrev pub wanted_of : ℕ → Direction → Deal → Wanted
wanted_of q d x = record { quarter = q; direction = d; identifier = x.identifier }

-- of a direction of quarter hour q, in list order
abbrev pub wanted_side : ℕ → Direction → Given → List Wanted
wanted_side q d g = each (wanted_of q d) (deals_in d g)

-- of the first q quarter hours, P before N
unfoldable pub wanted_up_to : Given → ℕ → List Wanted
wanted_up_to g zero = []
wanted_up_to g (suc q) = wanted_up_to g q ++ (wanted_side q Positive g ++ wanted_side q Negative g)

abbrev pub wanted_in : Given → List Wanted
wanted_in g = wanted_up_to g (quarters_in g)

-- ---- the shares of a direction of a quarter hour, among all of them in that order

-- how many stand before them
abbrev pub per_quarter_hour : Given → ℕ
per_quarter_hour g = length g.positives + length g.negatives

abbrev pub shares_before : Direction → Given → ℕ → ℕ
shares_before Positive g q = q * per_quarter_hour g
shares_before Negative g q = q * per_quarter_hour g + length g.positives

unfoldable pub shares_at : Direction → Given → ℕ → List ℤ → List ℤ
shares_at d g q shares = take (length (deals_in d g)) (drop (shares_before d g q) shares)

-- they are looked at against the pool's surplus and the contracts' gaps there
abbrev pub surplus_in : Direction → Given → ℕ → ℕ
surplus_in d g q = (pool_in d g q).surplus.0

abbrev pub gaps_in : Direction → Given → ℕ → List ℕ
gaps_in d g q = each gap_of_claim (claims_in d g q)

abbrev pub AcceptableAt : Given → List ℤ → ℕ → Direction → Type 0
AcceptableAt g shares q d = Acceptable (surplus_in d g q) (gaps_in d g q) (shares_at d g q shares)

abbrev pub acceptable_at : Given → List ℤ → ℕ → Direction → Bool
acceptable_at g shares q d = acceptable_of (surplus_in d g q) (gaps_in d g q) (shares_at d g q shares)

-- ---- the verdict: the quarter hours are looked at in order, P before N, and the first that does not hold is named

pub record Side : Type 0 where
  pub quarter : ℕ
  pub direction : Direction

abbrev pub side : ℕ → Direction → Side
side q d = record { quarter = q; direction = d }

-- both directions of the first q quarter hours
unfoldable pub sides_up_to : ℕ → List Side
sides_up_to zero = []
sides_up_to (suc q) = sides_up_to q ++ (side q Positive ∷ side q Negative ∷ [])

unfoldable pub first_failing : Given → List ℤ → List Side → Verdict
first_failing g shares [] = Accepted (quarters_in g)
first_failing g shares (s ∷ sides) =
    cond (acceptable_at g shares s.quarter s.direction) (first_failing g shares sides) (Failing s.quarter s.direction)

unfoldable pub verdict_of : Given → List ℤ → Verdict
verdict_of g shares = first_failing g shares (sides_up_to (quarters_in g))
