-- AN INPUT THAT SAYS WHAT IS IN RANGE AND COMPLETE IS ACCEPTED.
-- Assumes nothing.
use Prim.Native.Nat.{ℕ, ◌+◌, ◌≤◌, ◌<◌}
use mathlib.Core.Path.{◌≡◌, refl, sym, ap, ◌∙◌}
use mathlib.Core.Bool.{true, false}
use mathlib.Core.List.{List, [], ◌∷◌, ◌++◌, append_assoc, append-nil}
use native.Mathlib.Omega.{arith}
use borrow.Author.Tests.{lt-leb, le-ltb}
use lib.ListN.{length, length-append}
use Rattle.std.specs.Prelude.{Ok}
use Rattle.vocabulary.specs.declared.interval.Interval.{Interval}
use Rattle.vocabulary.specs.Interval.{windows_of}
use Rattle.vocabulary.specs.Refusals.{accepted}
use Rattle.vocabulary.specs.declared.header.Header.{Header}
use Rattle.vocabulary.specs.declared.sample.Sample.{Sample}
use Rattle.channel.specs.Start.{Start, fresh, carried}
use Rattle.channel.specs.Acceptable.{AcceptableStart}
use Rattle.series.specs.Scan.{each}
use Rattle.lines.specs.Lines.{lines_of}
use Rattle.reading.specs.Line.{line_of, identifier_of}
use Rattle.reading.specs.declared.Line.{Line}
use Rattle.reading.specs.declared.Line.TheVariants as L
use Rattle.meaning.specs.Given.{Given, headed, with_sample, interval_in}
use Rattle.meaning.specs.Meaning.{SoFar, nothing, these, untouched, lacking, lacks, all_samples, header_ground, sample_grounds, end_grounds, grounds, ground, after}
use Rattle.meaning.specs.Endings.{Ending, whole, at_end, ending, ending_of, Accepts, none, more, FairSample, Each, of_none, of_more, Proper}
use Rattle.join.specs.Says.{block_lines, Says}
use Rattle.join.proofs.Accepting.{accept, accept-both, SaysEach, no_line_lem, a-line, says-each}
use Rattle.join.proofs.BlockAccepted.{block-lines-accepted}
use Rattle.join.proofs.DealsAccepted.{dealt, deals-accepted}

-- ---- the header, and the block where there is one

header-no-end : (h : Header) → L.Header h ≡ L.End → ⊥
header-no-end h e = cc

header-accepted : (h : Header) (identifier : List ℕ) → header_ground h ≡ Ok tt → accepted (ground nothing identifier (L.Header h)) ≡ true
unfolding grounds
header-accepted h identifier e = rw e

-- a start that a run can have lacks nothing
pub full_start : (i : Interval) (start : Start) → AcceptableStart i start → lacking start (windows_of i).to ≡ false
full_start i fresh a = refl
full_start i (carried b) a = le-ltb (length b.setpoints) (windows_of i).to (omega (arith, a.number))

start-accepted : (h : Header) (start : Start) (lines : List (List ℕ)) → AcceptableStart (interval_in (headed h)) start → each line_of lines ≡ block_lines start
    → Accepts (these (headed h)) lines (these (record { header = h; start = start; positives = []; negatives = []; samples = [] }))
unfolding each untouched
start-accepted h fresh [] a e = none
start-accepted h fresh (line ∷ lines) a e = absurd (omega (arith, ap length e))
start-accepted h (carried b) lines a e = block-lines-accepted (headed h) b refl refl a lines e

-- ---- the samples

sample-no-end : (x : Sample) → L.Sample x ≡ L.End → ⊥
sample-no-end x e = cc

sample-accepted : (g : Given) (x : Sample) (identifier : List ℕ) → lacks g ≡ false → length g.samples < all_samples g → FairSample x
    → accepted (ground (these g) identifier (L.Sample x)) ≡ true
unfolding grounds sample_grounds
sample-accepted g x identifier l r f = rw (lt-leb (all_samples g) (length g.samples) r, f.setpoint, f.actual, l)

-- with samples after those that were there
abbrev with_samples : List Sample → Given → Given
with_samples xs g = record { header = g.header; start = g.start; positives = g.positives; negatives = g.negatives; samples = g.samples ++ xs }

full-still : (g : Given) (x : Sample) → lacks g ≡ false → lacks (with_sample x g) ≡ false
unfolding lacks
full-still g x l = l

samples-accepted : (g : Given) {xs : List Sample} {lines : List (List ℕ)} → lacks g ≡ false → length g.samples + length xs ≤ all_samples g → Each FairSample xs
    → SaysEach L.Sample lines xs → Accepts (these g) lines (these (with_samples xs g))
unfolding after
samples-accepted g l r of_none no_line_lem = rw (append-nil g.samples) none
samples-accepted g l r (of_more p ps) (a-line {line = line} {x = x} {xs = xs} e says) =
    let longer : length (g.samples ++ (x ∷ [])) ≡ length g.samples + 1 = length-append g.samples (x ∷ []) in
    let room : length (g.samples ++ (x ∷ [])) + length xs ≤ all_samples g = omega arith in
    accept (these g) line (L.Sample x) e (sample-accepted g x (identifier_of line) l (omega arith) p) (sample-no-end x)
    (rw (← append_assoc g.samples (x ∷ []) xs) (samples-accepted (with_sample x g) (full-still g x l) room ps says))

-- ---- the end

end-accepted : (g : Given) (identifier : List ℕ) → length g.samples ≡ all_samples g → accepted (ground (these g) identifier L.End) ≡ true
unfolding grounds end_grounds
end-accepted g identifier e = rw (le-ltb (length g.samples) (all_samples g) (omega arith))

-- a line other than E does not end the input
pub not-at-end : (line : Line) (so : SoFar) (rest : Ending) → (line ≡ L.End → ⊥) → at_end line so rest ≡ rest
not-at-end (L.Header h) so rest n = refl
not-at-end (L.Bounds bounds) so rest n = refl
not-at-end (L.Setpoint s) so rest n = refl
not-at-end (L.Contract c) so rest n = refl
not-at-end (L.Sample x) so rest n = refl
not-at-end L.End so rest n = absurd (n refl)
not-at-end L.Malformed so rest n = refl

-- lines that are accepted, and then an E that is
pub ends-whole : {so last : SoFar} {before : List (List ℕ)} (n : ℕ) (end : List ℕ) (rest : List (List ℕ)) → Accepts so before last → line_of end ≡ L.End
    → accepted (ground last (identifier_of end) L.End) ≡ true → ending so n (before ++ (end ∷ rest)) ≡ whole last
unfolding ending
ends-whole n end rest none e a = rw (e, a)
ends-whole n end rest (more {so} {line = line} f u r) e a = rw (f, not-at-end (line_of line) so _ u) (ends-whole (n + 1) end rest r e a)

-- ---- the whole input

module _ (input : List ℕ) (g : Given) (says : Says input g) (proper : Proper g) (start : AcceptableStart (interval_in g) g.start) (complete : length g.samples ≡ all_samples g) where
  abbrev before : List (List ℕ)
  before = says.head ∷ (says.block ++ (says.contracts ++ says.samples))

  full : lacking g.start (windows_of (interval_in g)).to ≡ false
  full = full_start (interval_in g) g.start start

  full-before : lacks (dealt g.header g.start full g.positives g.negatives) ≡ false
  unfolding lacks
  full-before = full

  after-header : Accepts (these (headed g.header)) (says.block ++ (says.contracts ++ says.samples)) (these g)
  after-header =
      accept-both (start-accepted g.header g.start says.block start says.said_block)
      (accept-both (deals-accepted g.header g.start full [] [] says.said_contracts proper.positives proper.negatives proper.names)
      (samples-accepted (dealt g.header g.start full g.positives g.negatives) full-before (omega (arith, complete)) proper.samples
      (says-each L.Sample says.samples g.samples says.said_samples)))

  all-accepted : Accepts nothing before (these g)
  unfolding after
  all-accepted =
      accept nothing says.head (L.Header g.header) says.said_header (header-accepted g.header (identifier_of says.head) proper.header)
      (header-no-end g.header) after-header

  -- before E, and with it
  all_lines : lines_of input ≡ before ++ (says.end ∷ says.rest)
  all_lines =
      says.lines
      ∙ ap (λ (l : List (List ℕ)). says.head ∷ l)
      (ap (λ (l : List (List ℕ)). says.block ++ l) (sym (append_assoc says.contracts says.samples (says.end ∷ says.rest)))
      ∙ sym (append_assoc says.block (says.contracts ++ says.samples) (says.end ∷ says.rest)))

  -- IT ENDS by E, with g given
  pub said-ends : ending_of input ≡ whole (these g)
  unfolding ending_of
  said-ends =
      ap (ending nothing 1) all_lines
      ∙ ends-whole 1 says.end says.rest all-accepted says.said_end (end-accepted g (identifier_of says.end) complete)
