-- How a recording ends, and all that is printed for it (docs/RULES.md, 'Mending a recording'): what the meaning of a recording comes to, read from its end.
use Rattle.std.specs.Prelude.{ℕ, ◌+◌, ◌≡◌, true, false, cond, List, [], ◌∷◌, ◌++◌, length, Err}
use Rattle.series.specs.Scan.{each}
use Rattle.vocabulary.specs.declared.refusal.Refusal.TheVariants.{NoEnd}
use Rattle.vocabulary.specs.Refusals.{Ruling, accepted}
use Rattle.vocabulary.specs.Grounds.{Earliest}
use Rattle.vocabulary.specs.declared.header.Header.{Header}
use Rattle.vocabulary.specs.declared.recorded.Recorded.{Recorded}
use Rattle.lines.specs.Lines.{lines_of}
use Rattle.reading.specs.Entry.{entry_of}
use Rattle.reading.specs.declared.entry.Entry.{Entry}
use Rattle.reading.specs.declared.entry.Entry.TheVariants as E
use Rattle.mending.specs.declared.grid.Grid.{Grid}
use Rattle.mending.specs.Mending.{SoFar, nothing, these, over, grid_of, grounds, ground, Item, refused, fillings, recorded_items, with, recording}

-- ---- what was printed, by what was given alone

-- each line after those before it
unfoldable pub items_from : Grid → List Recorded → List Recorded → List Item
items_from t before [] = []
items_from t before (row ∷ rows) = recorded_items t before row ++ items_from t (before ++ (row ∷ [])) rows

abbrev pub items_of : Grid → List Recorded → List Item
items_of t rows = items_from t [] rows

abbrev pub printed : SoFar → List Item
printed nothing = []
printed (these h rows) = items_of (grid_of h) rows
printed over = []

-- ---- how a recording ends: every input has one ending

pub data Ending : Type 0 where
  -- by E, with what was given before it
  whole : SoFar → Ending
  -- by a refusal: what was given before it, the number of the refused line, and why it is refused
  refused_at : SoFar → ℕ → Ruling → Ending
  -- without either: what was given, and the number of complete lines plus 1
  short : SoFar → ℕ → Ending

abbrev pub at_end : Entry → SoFar → Ending → Ending
at_end (E.Header h) so rest = rest
at_end (E.Recorded row) so rest = rest
at_end E.End so rest = whole so
at_end E.Malformed so rest = rest

-- the lines from number n on
unfoldable pub ending : SoFar → ℕ → List (List ℕ) → Ending
ending so n [] = short so n
ending so n (line ∷ lines) =
    cond (accepted (ground so (entry_of line))) (at_end (entry_of line) so (ending (with so (entry_of line)) (n + 1) lines)) (refused_at so n (ground so (entry_of line)))

unfoldable pub ending_of : List ℕ → Ending
ending_of input = ending nothing 1 (lines_of input)

-- what was given before it
abbrev pub given_in : Ending → SoFar
given_in (whole so) = so
given_in (refused_at so n refusal) = so
given_in (short so n) = so

-- the refusal, if there is one; 15 where a recording stops short
abbrev pub refusal_in : Ending → List Item
refusal_in (whole so) = []
refusal_in (refused_at so n refusal) = refused n refusal ∷ []
refusal_in (short so n) = refused n (Err NoEnd) ∷ []

-- ---- what an ending says of the lines

-- lines that are accepted one after the other, none of them E: what was given before them, and with them
pub data Accepts : SoFar → List (List ℕ) → SoFar → Type 0 where
  none : {so : SoFar} → Accepts so [] so
  more : {so last : SoFar} {line : List ℕ} {lines : List (List ℕ)} → accepted (ground so (entry_of line)) ≡ true → (entry_of line ≡ E.End → ⊥)
      → Accepts (with so (entry_of line)) lines last → Accepts so (line ∷ lines) last

-- lines that say what was given: D, and a G line for each
pub data SaysSo : List (List ℕ) → SoFar → Type 0 where
  no_line_lem : SaysSo [] nothing
  header_and_rows : {h : Header} {rows : List Recorded} (head : List ℕ) (lines : List (List ℕ)) → entry_of head ≡ E.Header h → each entry_of lines ≡ each E.Recorded rows
      → SaysSo (head ∷ lines) (these h rows)

-- AN ACCEPTED RECORDING: D, G lines and E, all accepted; printed is what these lines say, and what is missing up to the end of the stretch. What follows E is not read
pub record AcceptedRecording (input : List ℕ) (h : Header) (rows : List Recorded) : Type 0 where
  pub before : List (List ℕ)
  pub end : List ℕ
  pub rest : List (List ℕ)
  pub lines : lines_of input ≡ before ++ (end ∷ rest)
  pub accepts : Accepts nothing before (these h rows)
  pub says : SaysSo before (these h rows)
  pub said_end : entry_of end ≡ E.End
  pub accepted_end : accepted (ground (these h rows) E.End) ≡ true
  pub items : recording input ≡ items_of (grid_of h) rows ++ fillings (grid_of h) rows (grid_of h).places

-- A REFUSED RECORDING: the lines before the refused one are accepted; printed is what they say, and R with the line's number and the first ground that holds
pub record RefusedRecording (input : List ℕ) (so : SoFar) (n : ℕ) (refusal : Ruling) : Type 0 where
  pub before : List (List ℕ)
  pub line : List ℕ
  pub rest : List (List ℕ)
  pub lines : lines_of input ≡ before ++ (line ∷ rest)
  pub accepts : Accepts nothing before so
  pub says : SaysSo before so
  pub number : n ≡ length before + 1
  pub first : Earliest (grounds so (entry_of line)) refusal
  pub given : accepted refusal ≡ false
  pub items : recording input ≡ printed so ++ (refused n refusal ∷ [])

-- A RECORDING THAT STOPS SHORT: all its complete lines are accepted, and 15 comes with their number plus 1
pub record ShortRecording (input : List ℕ) (so : SoFar) (n : ℕ) : Type 0 where
  pub accepts : Accepts nothing (lines_of input) so
  pub says : SaysSo (lines_of input) so
  pub number : n ≡ length (lines_of input) + 1
  pub items : recording input ≡ printed so ++ (refused n (Err NoEnd) ∷ [])

-- EXACTLY ONE OF THEM: the one that `ending_of` names
abbrev pub EndsSo : List ℕ → Ending → Type 0
EndsSo input (whole nothing) = ⊥
EndsSo input (whole (these h rows)) = AcceptedRecording input h rows
EndsSo input (whole over) = ⊥
EndsSo input (refused_at so n refusal) = RefusedRecording input so n refusal
EndsSo input (short so n) = ShortRecording input so n
