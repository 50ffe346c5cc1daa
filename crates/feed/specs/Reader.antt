-- What the calls of the reader make of a block of input, and of its end (RULES, 'Text').
use Rattle.std.specs.Prelude.{ℕ, Bool, List, length, Result, Ok, Err}
use Rattle.lines.specs.Gathering.{empty_gatherer}
use Rattle.lines.specs.Feed as lines
use Rattle.lines.specs.Feed.{Outcome}
use Rattle.sheets.specs.Buffer as buffer
use Rattle.sheets.specs.Buffer.{buffer_length}
use Rattle.vocabulary.specs.Stage.{closed_at}
use Rattle.vocabulary.specs.declared.refusal.Refusal.{Refusal}
use Rattle.vocabulary.specs.declared.refusal.Refusal.TheVariants.{BufferTooShort}
use Rattle.text.specs.Desk.{empty_desk, line_turn, finish_turn}
use Rattle.text.specs.declared.desk.Desk.{Desk}
use Rattle.feed.specs.declared.Reader.{Reader}
use Rattle.feed.specs.declared.Fed.{Fed}

-- before the input
unfoldable pub empty_reader : Reader
empty_reader = record { gatherer = empty_gatherer; desk = empty_desk }

abbrev pub closed_of : Desk → Bool
closed_of desk = closed_at desk.stage

-- A BLOCK: byte by byte, each line to the desk, until something is printed, the desk is closed, or the block ends
abbrev pub feed_of : Reader → List ℕ → Outcome Desk
feed_of reader block = lines.feed_of line_turn closed_of reader.gatherer reader.desk block

-- THE INPUT'S END, after the lines that were counted
abbrev pub finish_of : Reader → Outcome Desk
finish_of reader =
    record {
      gatherer = reader.gatherer;
      desk = (finish_turn reader.desk reader.gatherer.count).desk;
      used = 0;
      text = (finish_turn reader.desk reader.gatherer.count).text;
    }

-- the reader that an outcome leaves
abbrev pub reader_of : Outcome Desk → Reader
reader_of o = record { gatherer = o.gatherer; desk = o.desk }

-- what a call answers; one that is lent a buffer that may be too short does nothing
abbrev pub unfed_of : Reader → Fed
unfed_of reader = record { reader = reader; used = 0; printed = Err BufferTooShort }

abbrev pub fed_of : Outcome Desk → Fed
fed_of o = record { reader = reader_of o; used = o.used; printed = Ok (length o.text) }

-- what a call answers that is lent the reader: by the reader that it leaves
abbrev pub fed_with : Reader → ℕ × Result ℕ Refusal → Fed
fed_with reader told = record { reader = reader; used = told.0; printed = told.1 }

abbrev pub Yields : List ℕ → Reader → Outcome Desk → Fed → List ℕ → Type 0
Yields out reader o r out' = buffer.Yields (λ (f : Fed). f.printed) buffer_length out (unfed_of reader) (fed_of o) o.text r out'
