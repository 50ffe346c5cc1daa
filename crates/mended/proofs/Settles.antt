-- A MENDED RECORDING SETTLES.
-- Assumes nothing.
use Prim.Native.Nat.{ℕ}
use mathlib.Core.Path.{◌≡◌, sym, ap, ◌∙◌}
use mathlib.Core.Bool.{false}
use mathlib.Core.List.{List, ◌∷◌, ◌++◌}
use native.Mathlib.Omega.{arith}
use lib.ListN.{length}
use Rattle.series.specs.Scan.{each}
use Rattle.vocabulary.specs.Refusals.{Ruling}
use Rattle.vocabulary.specs.declared.header.Header.{Header}
use Rattle.vocabulary.specs.declared.recorded.Recorded.{Recorded}
use Rattle.lines.specs.Lines.{lines_of}
use Rattle.reading.specs.Line.{line_of}
use Rattle.reading.specs.Entry.{entry_of}
use Rattle.reading.specs.declared.Line.TheVariants as L
use Rattle.reading.specs.declared.entry.Entry.TheVariants as E
use Rattle.meaning.specs.Given.{Given, interval_in}
use Rattle.meaning.specs.Meaning.{lacks, all_samples}
use Rattle.meaning.specs.Endings.{FairSample, Each, Proper, AcceptedInput}
use Rattle.meaning.proofs.Inputs.{accepted-input}
use Rattle.join.specs.Says.{Says}
use Rattle.join.proofs.Accepting.{first-same}
use Rattle.join.proofs.SaidAccepted.{full_start, said-ends}
use Rattle.join.proofs.Inputs.{accepted-says}
use Rattle.mending.specs.Mending.{grid_of, Item, refused, filled_from, good_of, last_of, next_place, recording, mended}
use Rattle.mending.specs.Mending as M
use Rattle.mended.specs.Endings.{items_of, SaysSo, header_and_rows, AcceptedRecording}
use Rattle.mended.specs.Promises.{samples_in}
use Rattle.mended.specs.Settles.{Contracted, sample_lines, MadeOf, mended_given}
use Rattle.mended.proofs.Standing.{Closes, accepted-mend, accepted-close}
use Rattle.mended.proofs.SameLine.{same-header}
use Rattle.mended.proofs.SamplesBack.{all_fair, all_back, none-refused}
use Rattle.mended.proofs.Promises.{whole-stretch}

-- the first line is D
first_says : {before : List (List ℕ)} {h : Header} {rows : List Recorded} (head : List ℕ) (others rest : List (List ℕ)) → SaysSo before (M.these h rows)
    → (head ∷ others) ≡ before ++ rest → entry_of head ≡ E.Header h
first_says head others rest (header_and_rows other lines s r) e = ap entry_of (first-same e) ∙ s

module _ {recorded : List ℕ} {h : Header} {rows : List Recorded} (a : AcceptedRecording recorded h rows) where
  close : Closes (grid_of h) rows (good_of (grid_of h) rows) (next_place (grid_of h) (last_of (good_of (grid_of h) rows)))
  close = accepted-close a.accepts a.accepted_end

  abbrev all : List Item
  all = items_of (grid_of h) rows ++ filled_from (grid_of h) close.g.sample (next_place (grid_of h) (last_of (good_of (grid_of h) rows))) close.missing

  items-are : recording recorded ≡ all
  items-are = a.items ∙ ap (λ (l : List Item). items_of (grid_of h) rows ++ l) close.filled

  -- the samples are in range, and as many as the header asks for
  samples-fair : Each FairSample (samples_in (recording recorded))
  samples-fair = rw items-are (all_fair (accepted-mend a.accepts) close)

  samples-read : each line_of (sample_lines (lines_of (mended recorded))) ≡ each L.Sample (samples_in (recording recorded))
  unfolding mended
  samples-read = rw items-are (all_back (accepted-mend a.accepts) close)

  -- R is not printed for it
  pub accepted-not-refused : (before after : List Item) (n : ℕ) (refusal : Ruling) → recording recorded ≡ before ++ (refused n refusal ∷ after) → ⊥
  accepted-not-refused before after n refusal e = none-refused (accepted-mend a.accepts) close before after n refusal (sym items-are ∙ e)

  module _ {g : Given} {block contracts : List (List ℕ)} {input : List ℕ} (same : g.header ≡ h) (deals : Contracted g block contracts) (made : MadeOf recorded block contracts input) where
    abbrev given : Given
    given = mended_given recorded g

    complete : length (samples_in (recording recorded)) ≡ all_samples given
    unfolding grid_of
    complete = rw same (whole-stretch a).number

    full : lacks given ≡ false
    unfolding lacks
    full = full_start (interval_in g) g.start deals.acceptable

    proper : Proper given
    proper =
        record {
          header = deals.proper.header;
          start = deals.proper.start;
          filled = λ e. full;
          positives = deals.proper.positives;
          negatives = deals.proper.negatives;
          names = deals.proper.names;
          samples = samples-fair;
          enough = omega (arith, complete);
        }

    said_header : line_of made.head ≡ L.Header g.header
    said_header = rw same (same-header made.head h (first_says made.head made.others (a.end ∷ a.rest) a.says (sym made.same_head ∙ a.lines)))

    says : Says input given
    says =
        record {
          head = made.head;
          block = block;
          contracts = contracts;
          samples = sample_lines (lines_of (mended recorded));
          end = made.end;
          rest = made.rest;
          lines = made.lines;
          said_header = said_header;
          said_block = deals.said_block;
          said_contracts = deals.said_contracts;
          said_samples = samples-read;
          said_end = made.said_end;
        }

    settles : AcceptedInput input given
    settles = accepted-input input given (said-ends input given says proper deals.acceptable complete)

-- THE INPUT OF THE SAME D LINE, a block or none and contracts in range, the S lines printed for an accepted recording, and E, is accepted
pub mended-settles : {recorded input : List ℕ} {h : Header} {rows : List Recorded} {g : Given} {block contracts : List (List ℕ)} → AcceptedRecording recorded h rows → g.header ≡ h
    → Contracted g block contracts → MadeOf recorded block contracts input → AcceptedInput input (mended_given recorded g)
mended-settles a same deals made = settles a same deals made

-- such are the block and the contracts of every accepted input: its S lines may be replaced by those of an accepted recording under the same header
pub accepted-contracted : (input : List ℕ) (g : Given) (a : AcceptedInput input g) → Contracted g (accepted-says input g a).block (accepted-says input g a).contracts
accepted-contracted input g a =
    let s = accepted-says input g a in
    record { said_block = s.said_block; said_contracts = s.said_contracts; proper = a.proper; acceptable = a.start }
