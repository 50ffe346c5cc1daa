-- What the lines of an input say, kind by kind (docs/RULES.md, 'Text', 'The start').
use Rattle.std.specs.Prelude.{ℕ, ◌≡◌, List, [], ◌∷◌, ◌++◌}
use Rattle.vocabulary.specs.declared.direction.Direction.TheVariants.{Positive, Negative}
use Rattle.vocabulary.specs.declared.header.Header.{Header}
use Rattle.vocabulary.specs.declared.contract.Contract.{Contract}
use Rattle.vocabulary.specs.declared.acceptance.Bounds.{Bounds}
use Rattle.channel.specs.Start.{Block, Start, fresh, carried}
use Rattle.channel.specs.Acceptable.{Acceptable}
use Rattle.series.specs.Scan.{each}
use Rattle.sheets.specs.Sheet.{block_text}
use Rattle.lines.specs.Lines.{lines_of}
use Rattle.reading.specs.Line.{line_of, identifier_of}
use Rattle.reading.specs.declared.Line.{Line}
use Rattle.reading.specs.declared.Line.TheVariants as L
use Rattle.meaning.specs.Given.{Deal, Given, headed, with_start, interval_in, block_in}
use Rattle.meaning.specs.Meaning.{these, deal_of, settled}
use Rattle.meaning.specs.Endings.{Accepts}

-- O with the bounds of a block, and B for each of its setpoints, oldest first
abbrev pub bounds_of : Block → Bounds
bounds_of b = record { oga = record { 0 = b.oga }; uga = record { 0 = b.uga } }

abbrev pub bounds_line : Block → Line
bounds_line b = L.Bounds (bounds_of b)

abbrev pub block_lines : Start → List Line
block_lines fresh = []
block_lines (carried b) = bounds_line b ∷ each L.Setpoint b.setpoints

-- THE BLOCK THAT IS HANDED ON: it stands at the end of what is printed, and is acceptable; behind any header of its interval its lines are accepted, and give that block
pub record HandedOn (input : List ℕ) (g : Given) : Type 0 where
  pub sheet : List ℕ
  pub text : settled input ≡ sheet ++ block_text (block_in g)
  pub acceptable : Acceptable (interval_in g) (block_in g)
  pub read : each line_of (lines_of (block_text (block_in g))) ≡ block_lines (carried (block_in g))
  pub accepts : (h : Header) → interval_in (headed h) ≡ interval_in g
      → Accepts (these (headed h)) (lines_of (block_text (block_in g))) (these (with_start (carried (block_in g)) (headed h)))

-- C for each contract: those of each direction in the order of its list, the two directions mixed in any way
pub data SaysDeals : List (List ℕ) → List Deal → List Deal → Type 0 where
  no_more : SaysDeals [] [] []
  positive : {line : List ℕ} {lines : List (List ℕ)} {ps ns : List Deal} (c : Contract) → line_of line ≡ L.Contract c → c.direction ≡ Positive → SaysDeals lines ps ns
      → SaysDeals (line ∷ lines) (deal_of c (identifier_of line) ∷ ps) ns
  negative : {line : List ℕ} {lines : List (List ℕ)} {ps ns : List Deal} (c : Contract) → line_of line ≡ L.Contract c → c.direction ≡ Negative → SaysDeals lines ps ns
      → SaysDeals (line ∷ lines) ps (deal_of c (identifier_of line) ∷ ns)

-- AN INPUT THAT SAYS g: D, the block where it starts from one, the contracts, the samples, E. What follows E is not read
pub record Says (input : List ℕ) (g : Given) : Type 0 where
  pub head : List ℕ
  pub block : List (List ℕ)
  pub contracts : List (List ℕ)
  pub samples : List (List ℕ)
  pub end : List ℕ
  pub rest : List (List ℕ)
  pub lines : lines_of input ≡ head ∷ (block ++ (contracts ++ (samples ++ (end ∷ rest))))
  pub said_header : line_of head ≡ L.Header g.header
  pub said_block : each line_of block ≡ block_lines g.start
  pub said_contracts : SaysDeals contracts g.positives g.negatives
  pub said_samples : each line_of samples ≡ each L.Sample g.samples
  pub said_end : line_of end ≡ L.End
