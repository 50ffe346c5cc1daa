-- What the calls of the reader of a recording make of a block of it, and of its end (docs/RULES.md, 'Text').
use Rattle.std.specs.Prelude.{ℕ, Bool, List, length, Ok, Err}
use Rattle.lines.specs.Gathering.{empty_gatherer}
use Rattle.lines.specs.Feed.{Outcome}
use Rattle.lines.specs.Within.{feed_within}
use Rattle.sheets.specs.Buffer as buffer
use Rattle.vocabulary.specs.declared.refusal.Refusal.TheVariants.{BufferTooShort}
use Rattle.vocabulary.specs.Stage.{closed_at}
use Rattle.mending.specs.Mender.{empty_mender, line_room, line_turn, finish_turn}
use Rattle.mending.specs.declared.mender.Mender.{Mender}
use Rattle.mendfeed.specs.declared.Reader.{Reader}
use Rattle.mendfeed.specs.declared.Fed.{Fed}

-- before the recording
unfoldable pub empty_reader : Reader
empty_reader = record { gatherer = empty_gatherer; mender = empty_mender }

abbrev pub closed_of : Mender → Bool
closed_of m = closed_at m.stage

-- A BLOCK, with so much room: line by line, until the room that is left may be too short for one line more, the end or a refusal was printed, or the block ends
abbrev pub feed_of : ℕ → Reader → List ℕ → Outcome Mender
feed_of room reader block = feed_within line_turn closed_of line_room room reader.gatherer reader.mender block

-- THE END OF THE RECORDING, after the lines that were counted
abbrev pub finish_of : Reader → Outcome Mender
finish_of reader =
    record {
      gatherer = reader.gatherer;
      desk = (finish_turn reader.mender reader.gatherer.count).desk;
      used = 0;
      text = (finish_turn reader.mender reader.gatherer.count).text;
    }

-- the reader that an outcome leaves
abbrev pub reader_of : Outcome Mender → Reader
reader_of o = record { gatherer = o.gatherer; mender = o.desk }

-- what a call answers; one that is lent a buffer too short for a line's text does nothing
abbrev pub unfed_of : Reader → Fed
unfed_of reader = record { reader = reader; used = 0; printed = Err BufferTooShort }

abbrev pub fed_of : Outcome Mender → Fed
fed_of o = record { reader = reader_of o; used = o.used; printed = Ok (length o.text) }

abbrev pub Yields : List ℕ → Reader → Outcome Mender → Fed → List ℕ → Type 0
Yields out reader o r out' = buffer.Yields (λ (f : Fed). f.printed) line_room out (unfed_of reader) (fed_of o) o.text r out'
