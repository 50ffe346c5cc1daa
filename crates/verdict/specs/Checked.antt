-- THE MEANING OF AN INPUT TO THE CHECK OF SHARES: what is refused, and what is printed (docs/RULES.md, 'Refusals', 'Text').
-- Up to E it is an input that is settled, and crates/meaning says what it means; after E come the U lines.
use Rattle.std.specs.Prelude.{ℕ, ◌+◌, Bool, true, false, cond, not, ◌&&◌, List, [], ◌∷◌, ◌++◌, eqb, ℤ, pos, drop, Err}
use Rattle.std.specs.Int.Signed.{lt_z}
use Rattle.arithmetic.specs.Whole.{up}
use Rattle.vocabulary.specs.declared.refusal.Refusal.{Refusal}
use Rattle.vocabulary.specs.declared.refusal.Refusal.TheVariants.{WrongMoment, BadIdentifier, BadBlockLength, MisplacedShare, BadLine, NoEnd}
use Rattle.vocabulary.specs.Refusals.{Ruling, accepted}
use Rattle.vocabulary.specs.Grounds.{Ground, on, only, first}
use Rattle.contracts.specs.Identifier.{well_formed, same_bytes}
use Rattle.sheets.specs.Sheet.{letter_of, refusal_text}
use Rattle.lines.specs.Lines.{lines_of}
use Rattle.reading.specs.Line.{identifier_of}
use Rattle.reading.specs.declared.Line.{Line}
use Rattle.meaning.specs.Given.{Given}
use Rattle.meaning.specs.Meaning.{SoFar, nothing, these, lacks, grounds, after}
use Rattle.reading.specs.declared.share.Share.{Share}
use Rattle.reading.specs.declared.share.Asked.{Asked}
use Rattle.reading.specs.Share.{asked_of, whose_of}
use Rattle.sheets.specs.Verdict.{verdict_text}
use Rattle.verdict.specs.Wanted.{Wanted, wanted_in, verdict_of}
use Rattle.reading.specs.declared.Line.TheVariants as L
use Rattle.reading.specs.declared.share.Asked.TheVariants as A

-- ---- up to E

-- why a line is refused: as when it is settled. A share comes too early: 1 before the header, then 7, 17 while a block lacks setpoints, and 22
unfoldable pub asked_grounds : SoFar → List ℕ → Asked → List Ground
asked_grounds so line (A.Settling said) = grounds so (identifier_of line) said
asked_grounds nothing line (A.Share s) = only WrongMoment
asked_grounds (these g) line (A.Share s) =
    on BadIdentifier (not (well_formed (whose_of line)))
    ∷ on BadBlockLength (lacks g)
    ∷ on MisplacedShare true
    ∷ []

abbrev pub asked_ground : SoFar → List ℕ → Asked → Ruling
asked_ground so line asked = first (asked_grounds so line asked)

-- what was given, with a line that is not refused
abbrev pub after_asked : SoFar → List ℕ → Asked → SoFar
after_asked so line (A.Settling said) = after so (identifier_of line) said
after_asked so line (A.Share s) = so

-- ---- after E

-- a share is the one that is wanted: its quarter hour, its direction, its identifier byte for byte
unfoldable pub says_for : Wanted → Share → List ℕ → Bool
says_for w s identifier =
    not (lt_z s.quarter (pos 0))
    && eqb (up s.quarter) w.quarter
    && eqb (letter_of s.direction) (letter_of w.direction)
    && same_bytes identifier w.identifier

-- none is wanted any more where the list is at its end
abbrev pub is_next : List Wanted → Share → List ℕ → Bool
is_next [] s identifier = false
is_next (w ∷ ws) s identifier = says_for w s identifier

-- a line of an input that is settled comes too late: 1, but a malformed one is 14
abbrev pub too_late : Line → Refusal
too_late (L.Header h) = WrongMoment
too_late (L.Bounds bounds) = WrongMoment
too_late (L.Setpoint s) = WrongMoment
too_late (L.Contract c) = WrongMoment
too_late (L.Sample x) = WrongMoment
too_late L.End = WrongMoment
too_late L.Malformed = BadLine

-- why a line is refused: a share with 7, and with 22 where another one is wanted, or none
unfoldable pub share_grounds : List Wanted → List ℕ → Asked → List Ground
share_grounds ws line (A.Settling said) = only (too_late said)
share_grounds ws line (A.Share s) = on BadIdentifier (not (well_formed (whose_of line))) ∷ on MisplacedShare (not (is_next ws s (whose_of line))) ∷ []

abbrev pub share_ground : List Wanted → List ℕ → Asked → Ruling
share_ground ws line asked = first (share_grounds ws line asked)

-- the shares that were said, with a line that is not refused
abbrev pub with_share : List ℤ → Asked → List ℤ
with_share shares (A.Settling said) = shares
with_share shares (A.Share s) = shares ++ (s.kwh ∷ [])

-- ---- a whole input

-- how it comes out: a refusal with the number of a line; or what was given, with a share for each K line
pub data Outcome : Type 0 where
  refused : ℕ → Ruling → Outcome
  judged : Given → List ℤ → Outcome

-- the input ends: 22 where a share is missing
abbrev pub unless_missing : List Wanted → ℕ → Outcome → Outcome
unless_missing [] n done = done
unless_missing (w ∷ ws) n done = refused n (Err MisplacedShare)

-- after E, the lines from number n on: what is still wanted, and the shares so far
unfoldable pub share_lines : Given → List Wanted → List ℤ → ℕ → List (List ℕ) → Outcome
share_lines g ws shares n [] = unless_missing ws n (judged g shares)
share_lines g ws shares n (line ∷ lines) =
    cond (accepted (share_ground ws line (asked_of line))) (share_lines g (drop 1 ws) (with_share shares (asked_of line)) (n + 1) lines)
    (refused n (share_ground ws line (asked_of line)))

-- (E before the header is refused)
abbrev pub after_end : SoFar → ℕ → List (List ℕ) → Outcome
after_end nothing n lines = refused n (Err NoEnd)
after_end (these g) n lines = share_lines g (wanted_in g) [] n lines

-- E ends what is settled
abbrev pub unless_end : Asked → Outcome → Outcome → Outcome
unless_end (A.Settling (L.Header h)) ended rest = rest
unless_end (A.Settling (L.Bounds bounds)) ended rest = rest
unless_end (A.Settling (L.Setpoint s)) ended rest = rest
unless_end (A.Settling (L.Contract c)) ended rest = rest
unless_end (A.Settling (L.Sample x)) ended rest = rest
unless_end (A.Settling L.End) ended rest = ended
unless_end (A.Settling L.Malformed) ended rest = rest
unless_end (A.Share s) ended rest = rest

-- up to E, the lines from number n on; 15 where they stop short
unfoldable pub outcome : SoFar → ℕ → List (List ℕ) → Outcome
outcome so n [] = refused n (Err NoEnd)
outcome so n (line ∷ lines) =
    cond (accepted (asked_ground so line (asked_of line)))
    (unless_end (asked_of line) (after_end so (n + 1) lines) (outcome (after_asked so line (asked_of line)) (n + 1) lines))
    (refused n (asked_ground so line (asked_of line)))

unfoldable pub outcome_of : List ℕ → Outcome
outcome_of input = outcome nothing 1 (lines_of input)

-- R, or A or F
abbrev pub told : Outcome → List ℕ
told (refused n refusal) = refusal_text n refusal
told (judged g shares) = verdict_text (verdict_of g shares)

-- WHAT IS PRINTED for an input, after all of it was read
unfoldable pub checked : List ℕ → List ℕ
checked input = told (outcome_of input)
