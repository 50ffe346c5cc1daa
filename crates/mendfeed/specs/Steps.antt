-- The parts of a call, as the code has them.
use Rattle.std.specs.Prelude.{◌≡◌, ℕ, zero, suc, ◌+◌, ◌-◌, ◌<◌, ◌≤◌, false, List, length, drop, Option, Some, None}
use Rattle.lines.specs.Gathering.{past_of}
use Rattle.lines.specs.Feed.{Start}
use Rattle.lines.specs.Within.{and_then, rests}
use Rattle.lines.specs.declared.Gatherer.{Gatherer}
use Rattle.print.specs.Print.{Wrote}
use Rattle.mending.specs.Mender.{line_room, line_turn}
use Rattle.vocabulary.specs.declared.stage.Stage.TheVariants.{Open}
use Rattle.mending.specs.declared.mender.Mender.{Mender}
use Rattle.sheets.specs.Buffer.{over}
use Rattle.mendfeed.specs.Reader.{closed_of, feed_of, reader_of}
use Rattle.mendfeed.specs.declared.Reader.{Reader}
use Rattle.mendfeed.specs.declared.Moved.{Moved}
use Rattle.mendfeed.specs.declared.Ran.{Ran}

-- one line, or the rest of the block, from place `at` on; its text is put from place `from` on
pub record Moves (reader : Reader) (block : List ℕ) (at : ℕ) (out : List ℕ) (from : ℕ) (r : Moved) (out' : List ℕ) : Type 0 where
  pub text : List ℕ
  pub short : length text ≤ line_room
  pub wrote : Wrote out from text r.next out'
  pub within : at + r.used ≤ length block
  pub some : 0 < r.used
  pub is : (room : ℕ) → rests line_turn closed_of line_room reader.mender room ≡ false
      → feed_of room reader (drop at block) ≡ and_then text r.used (feed_of (room - length text) r.reader (drop (at + r.used) block))

-- bytes from place `at` on, up to place i, came to another reader; their text is put from place `from` on, up to place `next`
pub record So (start : Reader) (block : List ℕ) (at : ℕ) (out : List ℕ) (from : ℕ) (reader : Reader) (i next : ℕ) (out' : List ℕ) : Type 0 where
  pub text : List ℕ
  pub used : ℕ
  pub place : i ≡ at + used
  pub next_is : next ≡ from + length text
  pub fits : from + length text ≤ length out
  pub wrote : Wrote out from text next out'
  pub is : feed_of (length out - from) start (drop at block) ≡ and_then text used (feed_of (length out - next) reader (drop i block))

-- the mender takes recorded samples, and there is room for what one of them prints
pub record Ready (m : Mender) (room : ℕ) : Type 0 where
  pub taking : m.stage ≡ Open
  pub enough : line_room ≤ room

-- after so many lines that another reader read
abbrev pub past_rows : ℕ → Gatherer → Gatherer
past_rows zero g = g
past_rows (suc n) g = past_of (suc n) g

abbrev pub ran_from : Gatherer → Ran → Reader
ran_from g ran = record { gatherer = past_rows ran.rows g; mender = ran.mender }

-- where recorded samples can be taken from: each of those before had a byte at least
pub record Runnable (block : List ℕ) (ran : Ran) (out : List ℕ) : Type 0 where
  pub few : ran.rows ≤ ran.to
  pub within : ran.to ≤ length block
  pub room : ran.next ≤ length out

-- some more of them, or none; `count` lines came before the first
pub record Runs (count : ℕ) (block : List ℕ) (ran : Ran) (out : List ℕ) (r : Ran) (out' : List ℕ) : Type 0 where
  pub up : ran.rows ≤ r.rows
  pub far : ran.to + r.rows ≤ r.to + ran.rows
  pub still : Runnable block r out'
  pub none : r.rows ≡ ran.rows → out' ≡ out
  pub so : (g : Gatherer) → Start g → g.count ≡ count → So (ran_from g ran) block ran.to out ran.next (ran_from g r) r.to r.next out'

-- one more, or none
pub record Rows (count : ℕ) (block : List ℕ) (ran : Ran) (out : List ℕ) (r : Option Ran) (out' : List ℕ) : Type 0 where
  pub none : r ≡ None → out' ≡ out
  pub one : (more : Ran) → r ≡ Some more → more.rows ≡ ran.rows + 1
  pub runs : (more : Ran) → r ≡ Some more → Runs count block ran out more out'

-- one line, or the rest of the block, or recorded samples
pub record Steps (reader : Reader) (block : List ℕ) (at : ℕ) (out : List ℕ) (from : ℕ) (r : Moved) (out' : List ℕ) : Type 0 where
  pub within : at + r.used ≤ length block
  pub some : 0 < r.used
  pub so : So reader block at out from r.reader (at + r.used) r.next out'

-- recorded samples, if there are any
pub record Tries (reader : Reader) (block : List ℕ) (at : ℕ) (out : List ℕ) (from : ℕ) (r : Option Moved) (out' : List ℕ) : Type 0 where
  pub none : r ≡ None → out' ≡ out
  pub some : (moved : Moved) → r ≡ Some moved → Steps reader block at out from moved out'

-- all of them
pub record Reads (reader : Reader) (block out : List ℕ) (r : Moved) (out' : List ℕ) : Type 0 where
  pub reader_is : r.reader ≡ reader_of (feed_of (length out) reader block)
  pub used : r.used ≡ (feed_of (length out) reader block).used
  pub next : r.next ≡ length (feed_of (length out) reader block).text
  pub bytes : out' ≡ over (feed_of (length out) reader block).text out
  pub room : r.next ≤ length out
