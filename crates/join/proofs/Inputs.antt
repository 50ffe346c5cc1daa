-- THE JOIN OVER INPUTS: a printed block put behind D of another input, and two accepted inputs, the second from the block that the first hands on, with any input that says both.
-- Assumes nothing.
use Prim.Native.Nat.{ℕ, ◌+◌, ◌*◌}
use mathlib.Core.Path.{◌≡◌, refl, sym, ap, ap₂, ◌∙◌}
use mathlib.Core.Bool.{false}
use mathlib.Core.List.{List, [], ◌∷◌, ◌++◌}
use native.Mathlib.Omega.{arith}
use native.Mathlib.Nat.{add-mul}
use lib.IntN.{ℤ}
use lib.ListN.{length, length-append}
use Rattle.vocabulary.specs.declared.interval.Interval.{Interval}
use Rattle.vocabulary.specs.Interval.{windows_of}
use Rattle.vocabulary.specs.declared.header.Header.{Header}
use Rattle.channel.specs.Start.{Block, Start, fresh, carried}
use Rattle.channel.specs.Acceptable.{Acceptable, AcceptableStart}
use Rattle.series.specs.Scan.{each}
use Rattle.sheets.specs.Sheet.{block_text, closing_text}
use Rattle.lines.specs.Lines.{lines_of}
use Rattle.reading.specs.Line.{line_of}
use Rattle.lines.proofs.LineLaws.{NoLf, ended, read_back, written}
use Rattle.meaning.specs.Given.{Given, with_start, interval_in, quarters_in, block_in}
use Rattle.meaning.specs.Meaning.{these, lacks, all_samples, header_text, end_text, settled}
use Rattle.meaning.specs.Endings.{quarters_text, whole, ending_of, FairStart, Proper, AcceptedInput}
use Rattle.meaning.proofs.Endings.{ends}
use Rattle.meaning.proofs.Inputs.{accepted-input}
use Rattle.join.specs.Join.{Alike, Joins, JoinedSheets, HeaderForBoth, both_given, both_closing, JoinedInput}
use Rattle.join.specs.Says.{block_lines, Says}
use Rattle.join.proofs.Sheets.{joined-sheets}
use Rattle.join.proofs.Accepting.{first-same, rest-same}
use Rattle.join.proofs.NumberBack.{each_both}
use Rattle.join.proofs.BlockBack.{block_back, behind-line}
use Rattle.join.proofs.BlockAccepted.{accepted-whole, handed-acceptable}
use Rattle.join.proofs.SaidAccepted.{full_start, said-ends}
use Rattle.join.proofs.Shapes.{ended-says}

-- an accepted input says what was given
pub accepted-says : (input : List ℕ) (g : Given) → AcceptedInput input g → Says input g
accepted-says input g a = ended-says (rw a.ends at (ends input))

-- a start that a run can have is fair
fair-start : (i : Interval) (start : Start) → AcceptableStart i start → FairStart (windows_of i).to start
fair-start i fresh s = tt
fair-start i (carried b) s = record { oga = s.oga; uga = s.uga; setpoints = s.setpoints; few = omega (arith, s.number); between = λ e. s.between }

start-full : (g : Given) → AcceptableStart (interval_in g) g.start → lacks g ≡ false
unfolding lacks
start-full g s = full_start (interval_in g) g.start s

-- ---- a block that is put behind D

none_of : {X Y : Type 0} (f : X → Y) (l : List X) → each f l ≡ [] → l ≡ []
unfolding each
none_of f [] e = refl
none_of f (x ∷ l) e = absurd (omega (arith, ap length e))

module _ (b : Given) (block : Block) (line rest : List ℕ) (fits : Acceptable (interval_in b) block) (new : b.start ≡ fresh) (one : NoLf line) where
  -- the lines before
  module _ (says : Says (line ++ (10 ∷ rest)) b) where
    lines-before : (line ∷ lines_of rest) ≡ (says.head ∷ (says.block ++ (says.contracts ++ (says.samples ++ (says.end ∷ says.rest)))))
    lines-before = sym (read_back (ended one (written rest))) ∙ says.lines

    no_block : says.block ≡ []
    no_block = none_of line_of says.block (says.said_block ∙ ap block_lines new)

    rest-before : lines_of rest ≡ says.contracts ++ (says.samples ++ (says.end ∷ says.rest))
    rest-before = rest-same lines-before ∙ ap (λ (l : List (List ℕ)). l ++ (says.contracts ++ (says.samples ++ (says.end ∷ says.rest)))) no_block

    -- and with it
    says-block : Says (line ++ (10 ∷ (block_text block ++ rest))) (with_start (carried block) b)
    says-block =
        record {
          head = line;
          block = lines_of (block_text block);
          contracts = says.contracts;
          samples = says.samples;
          end = says.end;
          rest = says.rest;
          lines = behind-line block rest one ∙ ap (λ (l : List (List ℕ)). line ∷ (lines_of (block_text block) ++ l)) rest-before;
          said_header = ap line_of (first-same lines-before) ∙ says.said_header;
          said_block = block_back (interval_in b) block fits;
          said_contracts = says.said_contracts;
          said_samples = says.said_samples;
          said_end = says.said_end;
        }

  with-block : Proper b → Proper (with_start (carried block) b)
  with-block p =
      record {
        header = p.header;
        start = fair-start (interval_in b) (carried block) fits;
        filled = λ e. start-full (with_start (carried block) b) fits;
        positives = p.positives;
        negatives = p.negatives;
        names = p.names;
        samples = p.samples;
        enough = p.enough;
      }

  block-put-in : AcceptedInput (line ++ (10 ∷ rest)) b → AcceptedInput (line ++ (10 ∷ (block_text block ++ rest))) (with_start (carried block) b)
  block-put-in a =
      let whole-line = line ++ (10 ∷ (block_text block ++ rest)) in
      let started = with_start (carried block) b in
      accepted-input whole-line started (said-ends whole-line started (says-block (accepted-says (line ++ (10 ∷ rest)) b a)) (with-block a.proper) fits a.complete)

-- THE BYTES OF A PRINTED BLOCK, put behind D of any accepted input without one and of the same interval: that input then starts from the block, and is accepted
pub printed-block-put-in : {x : List ℕ} {a b : Given} (line rest : List ℕ) → AcceptedInput x a → AcceptedInput (line ++ (10 ∷ rest)) b → NoLf line → b.start ≡ fresh
    → interval_in b ≡ interval_in a → AcceptedInput (line ++ (10 ∷ (block_text (block_in a) ++ rest))) (with_start (carried (block_in a)) b)
printed-block-put-in {x} {a} {b} line rest accepted other one new same = block-put-in b (block_in a) line rest (rw same (handed-acceptable x a accepted)) new one other

-- ---- two inputs, and one over both

-- as many samples as both have
both-sizes : (q r : ℕ) {s x y z : ℕ} → z ≡ x → z ≡ y → s ≡ q + r → q * x + r * y ≡ s * z
both-sizes q r {z = z} e d c = rw (← e, ← d, c) (sym (add-mul q r z))

per-quarter : {i j : Interval} → i ≡ j → (windows_of i).samples ≡ (windows_of j).samples
per-quarter e = ap (λ (i : Interval). (windows_of i).samples) e

closing-by : {q r : ℕ} {f g p s : ℤ} {b c : Block} → q ≡ r → f ≡ g → p ≡ s → b ≡ c
    → closing_text q (record { 0 = f }) (record { 0 = p }) b ≡ closing_text r (record { 0 = g }) (record { 0 = s }) c
closing-by eq ef ep eb = rw (eq, ef, ep, eb)

module _ (a b : Given) (h : Header) (alike : Alike a b) (start : b.start ≡ carried (block_in a)) (header : HeaderForBoth a b h) where
  abbrev both : Given
  both = both_given h a b

  both-joins : Joins a b both
  both-joins =
      record {
        first = record { interval = header.interval; lot = header.lot; positives = refl; negatives = refl };
        second =
            record {
              interval = header.interval ∙ alike.interval;
              lot = header.lot ∙ alike.lot;
              positives = alike.positives;
              negatives = alike.negatives;
            };
        start = refl;
        block = start;
        samples = refl;
        quarters = header.quarters;
      }

  module _ {x y : List ℕ} (first : AcceptedInput x a) (second : AcceptedInput y b) where
    both-start : AcceptableStart (interval_in both) a.start
    both-start = rw header.interval first.start

    both-complete : length both.samples ≡ all_samples both
    both-complete =
        length-append a.samples b.samples
        ∙ ap₂ ◌+◌ first.complete second.complete
        ∙ both-sizes (quarters_in a) (quarters_in b) (per-quarter header.interval) (per-quarter (header.interval ∙ alike.interval)) header.quarters

    both-proper : Proper both
    both-proper =
        record {
          header = header.good;
          start = fair-start (interval_in both) a.start both-start;
          filled = λ e. start-full both both-start;
          positives = first.proper.positives;
          negatives = first.proper.negatives;
          names = first.proper.names;
          samples = each_both first.proper.samples second.proper.samples;
          enough = omega (arith, both-complete);
        }

    sheets : JoinedSheets a b both
    sheets = joined-sheets a b both both-joins (accepted-whole first) (accepted-whole second)

    module _ (z : List ℕ) (says : Says z both) where
      both_ends : ending_of z ≡ whole (these both)
      both_ends = said-ends z both says both-proper both-start both-complete

      both-text : settled z ≡ header_text both ++ ((quarters_text 0 a (quarters_in a) ++ quarters_text (quarters_in a) b (quarters_in b)) ++ both_closing a b)
      unfolding end_text
      both-text =
          (accepted-input z both both_ends).text
          ∙ ap₂ (λ (quarters closing : List ℕ). header_text both ++ (quarters ++ closing)) sheets.quarters
          (closing-by header.quarters sheets.fees sheets.penalties sheets.block)

      both-joined : JoinedInput a b both z
      both-joined = record { accepted = accepted-input z both both_ends; joins = both-joins; sheets = sheets; text = both-text }

-- THE JOIN: two accepted inputs with the same contracts, lot and interval, the second from the block that the first hands on; and any input that says the samples of both, in
-- one run under a header in range: it is accepted, and its sheet is theirs
pub inputs-joined : {x y z : List ℕ} {a b : Given} {h : Header} → AcceptedInput x a → AcceptedInput y b → Alike a b → b.start ≡ carried (block_in a) → HeaderForBoth a b h
    → Says z (both_given h a b) → JoinedInput a b (both_given h a b) z
inputs-joined {z = z} {a} {b} {h} first second alike start header says = both-joined a b h alike start header first second z says
