-- What is promised of the check of shares, over whole inputs.
use Rattle.std.specs.Prelude.{ℕ, zero, suc, ◌<◌, ◌≡◌, true, List, [], ◌∷◌, ◌++◌, ℤ, pos}
use Rattle.vocabulary.specs.declared.direction.Direction.{Direction}
use Rattle.vocabulary.specs.declared.direction.Direction.TheVariants.{Positive, Negative}
use Rattle.vocabulary.specs.Refusals.{accepted}
use Rattle.print.specs.Decimal.{digits}
use Rattle.sheets.specs.Sheet.{line_text, letter_of}
use Rattle.sheets.specs.Verdict.{accepted_text, failing_text}
use Rattle.lines.specs.Lines.{lines_of}
use Rattle.reading.specs.Line.{line_of, identifier_of}
use Rattle.reading.specs.declared.Line.{Line}
use Rattle.quarter.specs.Quarter.{share_in}
use Rattle.series.specs.Scan.{each}
use Rattle.meaning.specs.Given.{Deal, Given, quarters_in, lines_in}
use Rattle.meaning.specs.Meaning.{nothing, these, ground}
use Rattle.meaning.specs.Endings.{Accepts}
use Rattle.reading.specs.declared.share.Share.{Share}
use Rattle.reading.specs.Share.{asked_of, whose_of}
use Rattle.verdict.specs.Wanted.{Wanted, wanted_in, AcceptableAt}
use Rattle.reading.specs.declared.Line.TheVariants as L
use Rattle.reading.specs.declared.share.Asked.TheVariants as A

-- ---- what an input says

-- lines that say the shares that are wanted, one each, in order
pub data SaysShares : List (List ℕ) → List Wanted → List ℤ → Type 0 where
  none : SaysShares [] [] []
  more : {line : List ℕ} {lines : List (List ℕ)} {w : Wanted} {ws : List Wanted} {shares : List ℤ} (s : Share) → asked_of line ≡ A.Share s → s.quarter ≡ pos w.quarter
      → s.direction ≡ w.direction → whose_of line ≡ w.identifier → SaysShares lines ws shares → SaysShares (line ∷ lines) (w ∷ ws) (s.kwh ∷ shares)

-- an input that is settled without a refusal up to its E, and after it the U lines that are wanted, and nothing else
pub record SharesSaid (input : List ℕ) (g : Given) (shares : List ℤ) : Type 0 where
  pub before : List (List ℕ)
  pub end : List ℕ
  pub after : List (List ℕ)
  pub lines : lines_of input ≡ before ++ (end ∷ after)
  pub accepts : Accepts nothing before (these g)
  pub ends : line_of end ≡ L.End
  pub complete : accepted (ground (these g) (identifier_of end) L.End) ≡ true
  pub said : SaysShares after (wanted_in g) shares

-- ---- what is accepted, and what is named otherwise

-- in each quarter hour and direction the shares are acceptable
abbrev pub AllAcceptable : Given → List ℤ → Type 0
AllAcceptable g shares = (q : ℕ) → q < quarters_in g → (d : Direction) → AcceptableAt g shares q d

-- one comes before another: in an earlier quarter hour, or in the same one P before N
pub data Before : ℕ → Direction → ℕ → Direction → Type 0 where
  earlier : {p q : ℕ} {c d : Direction} → p < q → Before p c q d
  first : {q : ℕ} → Before q Positive q Negative

-- the first that does not hold
pub record FirstFailing (g : Given) (shares : List ℤ) (q : ℕ) (d : Direction) : Type 0 where
  pub within : q < quarters_in g
  pub fails : AcceptableAt g shares q d → ⊥
  pub others : (p : ℕ) (c : Direction) → Before p c q d → AcceptableAt g shares p c

-- what is printed where the U lines are those that are wanted
pub data Judges (g : Given) (shares : List ℤ) (text : List ℕ) : Type 0 where
  accepts : AllAcceptable g shares → text ≡ accepted_text (quarters_in g) → Judges g shares text
  names : (q : ℕ) (d : Direction) → FirstFailing g shares q d → text ≡ failing_text q d → Judges g shares text

-- AN INPUT THAT IS ACCEPTED, with A and n
pub record IsAccepted (input : List ℕ) (n : ℕ) : Type 0 where
  pub given : Given
  pub shares : List ℤ
  pub said : SharesSaid input given shares
  pub all : AllAcceptable given shares
  pub quarters : accepted_text n ≡ accepted_text (quarters_in given)

-- ---- our own shares, as an operator would have to write them

-- U: quarter hour, direction, identifier, share
unfoldable pub share_text : ℕ → Direction → List ℕ → ℕ → List ℕ
share_text q d identifier share = line_text 85 (digits q ∷ (letter_of d ∷ []) ∷ identifier ∷ digits share ∷ [])

unfoldable pub shares_text : ℕ → Direction → List Deal → List ℕ → List ℕ
shares_text q d [] shares = []
shares_text q d (x ∷ xs) [] = []
shares_text q d (x ∷ xs) (share ∷ shares) = share_text q d x.identifier share ++ shares_text q d xs shares

-- ZU of the K lines of the first q quarter hours, P before N
unfoldable pub own_text : Given → ℕ → List ℕ
own_text g zero = []
own_text g (suc q) =
    own_text g q ++ (shares_text q Positive g.positives (each share_in (lines_in Positive g q)) ++ shares_text q Negative g.negatives (each share_in (lines_in Negative g q)))

-- an input up to and including its E: the lines, each with its LF
abbrev pub stop_after : Line → List (List ℕ) → List (List ℕ)
stop_after (L.Header h) rest = rest
stop_after (L.Bounds bounds) rest = rest
stop_after (L.Setpoint s) rest = rest
stop_after (L.Contract c) rest = rest
stop_after (L.Sample x) rest = rest
stop_after L.End rest = []
stop_after L.Malformed rest = rest

unfoldable pub until_end : List (List ℕ) → List (List ℕ)
until_end [] = []
until_end (line ∷ lines) = line ∷ stop_after (line_of line) (until_end lines)

unfoldable pub as_text : List (List ℕ) → List ℕ
as_text [] = []
as_text (line ∷ lines) = line ++ (10 ∷ as_text lines)

-- with our own shares after it
abbrev pub with_own_shares : List ℕ → Given → List ℕ
with_own_shares input g = as_text (until_end (lines_of input)) ++ own_text g (quarters_in g)
