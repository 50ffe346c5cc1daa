-- A mended recording is settled (docs/RULES.md, 'Mending a recording'): its S lines between the day's contracts and E.
use Rattle.std.specs.Prelude.{ℕ, ◌≡◌, cond, List, [], ◌∷◌, ◌++◌, eqb, get_or}
use Rattle.channel.specs.Acceptable.{AcceptableStart}
use Rattle.series.specs.Scan.{each}
use Rattle.lines.specs.Lines.{lines_of}
use Rattle.reading.specs.Line.{line_of}
use Rattle.reading.specs.declared.Line.TheVariants as L
use Rattle.meaning.specs.Given.{Given, interval_in}
use Rattle.meaning.specs.Endings.{Proper}
use Rattle.join.specs.Says.{block_lines, SaysDeals}
use Rattle.mending.specs.Mending.{recording, mended}
use Rattle.mended.specs.Promises.{samples_in}

-- lines of a block, or none, and of contracts, that say what is in range
pub record Contracted (g : Given) (block contracts : List (List ℕ)) : Type 0 where
  pub said_block : each line_of block ≡ block_lines g.start
  pub said_contracts : SaysDeals contracts g.positives g.negatives
  pub proper : Proper g
  pub acceptable : AcceptableStart (interval_in g) g.start

-- the lines that begin with S (83): X lines are left out
unfoldable pub sample_lines : List (List ℕ) → List (List ℕ)
sample_lines [] = []
sample_lines (line ∷ lines) = cond (eqb (get_or line 0 0) 83) (line ∷ sample_lines lines) (sample_lines lines)

-- AN INPUT MADE OF A RECORDING: its D line, a block or none and contracts, the S lines that were printed for it, E. What follows E is not read
pub record MadeOf (recorded : List ℕ) (block contracts : List (List ℕ)) (input : List ℕ) : Type 0 where
  pub head : List ℕ
  pub others : List (List ℕ)
  pub same_head : lines_of recorded ≡ head ∷ others
  pub end : List ℕ
  pub rest : List (List ℕ)
  pub said_end : line_of end ≡ L.End
  pub lines : lines_of input ≡ head ∷ (block ++ (contracts ++ (sample_lines (lines_of (mended recorded)) ++ (end ∷ rest))))

-- what it says: the samples are those of the mended recording
abbrev pub mended_given : List ℕ → Given → Given
mended_given recorded g =
    record { header = g.header; start = g.start; positives = g.positives; negatives = g.negatives; samples = samples_in (recording recorded) }
