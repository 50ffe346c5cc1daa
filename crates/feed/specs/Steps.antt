-- The parts of a call, as the code has them: what stands next in a block, and what the desk makes of it. The powers of the samples lie beside the desk.
use Rattle.std.specs.Prelude.{ℕ, ◌+◌, ◌≤◌, ◌<◌, ◌≡◌, Bool, true, false, cond, List, length, drop, ltb, ℤ, Ok}
use Rattle.lines.specs.Gathering.{fresh_of, past_of, gathered_of}
use Rattle.lines.specs.Feed.{Start, on_turn}
use Rattle.lines.specs.Handing.{held_by}
use Rattle.lines.specs.Turns.{quiet}
use Rattle.lines.specs.declared.Gatherer.{Gatherer}
use Rattle.lines.specs.declared.Gathered.{Gathered}
use Rattle.samples.specs.Stretch.{Stretched}
use Rattle.settlement.specs.Bare.{whole_of, with_more}
use Rattle.sheets.specs.Buffer.{over}
use Rattle.text.specs.Desk.{Turn, line_turn, quarter_turn}
use Rattle.text.specs.declared.desk.Desk.{Desk}
use Rattle.text.specs.declared.desk.Told.{Told}
use Rattle.feed.specs.Reader.{feed_of, reader_of}
use Rattle.feed.specs.declared.Reader.{Reader}
use Rattle.feed.specs.declared.Piece.{Piece}
use Rattle.feed.specs.declared.Piece.TheVariants.{Samples, Line, Part}
use Rattle.feed.specs.declared.Found.{Found}
use Rattle.feed.specs.declared.BareDesk.{BareDesk}
use Rattle.feed.specs.declared.Stepped.{Stepped}
use Rattle.feed.specs.declared.Moved.{Moved}
use Rattle.feed.specs.declared.Fed.{Fed}

abbrev pub reader_with : Gatherer → Desk → Reader
reader_with gatherer desk = record { gatherer = gatherer; desk = desk }

-- a desk with the powers of its samples again
abbrev pub desk_with : BareDesk → List ℤ → List ℤ → Desk
desk_with desk sp ac = record { run = whole_of desk.bare sp ac; stage = desk.stage }

-- ---- what stands next

-- a line, or a part of one
abbrev pub line_found : Gathered → Found
line_found part = record { gatherer = part.gatherer; used = part.used; piece = cond part.complete Line Part }

-- a stretch of samples, whose powers are put after those that count
pub record Stretches (g : Gatherer) (block : List ℕ) (at filled room : ℕ) (sp ac sp' ac' : List ℤ) (n : ℕ) (r : Found) : Type 0 where
  pub some : 0 < n
  pub start : Start g
  pub reads : Stretched block at filled (filled + room) sp ac sp' ac' (record { samples = n; bytes = r.used })
  pub past : r.gatherer ≡ past_of n g

abbrev pub is_stretch : Piece → Bool
is_stretch (Samples n) = true
is_stretch Line = false
is_stretch Part = false

pub record Finds (g : Gatherer) (block : List ℕ) (at filled room : ℕ) (sp ac sp' ac' : List ℤ) (r : Found) : Type 0 where
  pub line : is_stretch r.piece ≡ false → (r ≡ line_found (gathered_of g (drop at block))) × ((sp' ≡ sp) × (ac' ≡ ac))
  pub stretch : (n : ℕ) → r.piece ≡ Samples n → Stretches g block at filled room sp ac sp' ac' n r

-- ---- what becomes of it

-- the gatherer for what follows
abbrev pub following : Gatherer → Piece → Gatherer
following g (Samples n) = g
following g Line = fresh_of g
following g Part = g

abbrev pub after_of : Found → Gatherer
after_of f = following f.gatherer f.piece

-- the desk's turn: samples, whose powers are in their places, or a line
abbrev pub turn_for : BareDesk → Gatherer → List ℤ → List ℤ → Piece → Turn
turn_for d g sp ac (Samples n) = quarter_turn (whole_of (with_more d.bare n) sp ac)
turn_for d g sp ac Line = line_turn (desk_with d sp ac) g.count (held_by g)
turn_for d g sp ac Part = quiet (desk_with d sp ac)

abbrev pub turn_by : BareDesk → Found → List ℤ → List ℤ → Turn
turn_by d f sp ac = turn_for d f.gatherer sp ac f.piece

-- what it comes to: the desk, with the powers that lie beside it then, and what was printed
pub record Steps (out : List ℕ) (turn : Turn) (r : Stepped) (sp ac : List ℤ) (out' : List ℕ) : Type 0 where
  pub desk : desk_with r.desk sp ac ≡ turn.desk
  pub printed : r.printed ≡ length turn.text
  pub bytes : out' ≡ over turn.text out
  pub room : length turn.text ≤ length out

-- ---- the steps of a call

-- gatherer and desk after some bytes, and how many bytes were printed
pub record Left : Type 0 where
  pub gatherer : Gatherer
  pub desk : Desk
  pub used : ℕ
  pub printed : ℕ

abbrev pub left_of : Moved → List ℤ → List ℤ → Left
left_of r sp ac = record { gatherer = r.gatherer; desk = desk_with r.desk sp ac; used = r.used; printed = r.printed }

-- the reader then
abbrev pub left_by : Left → Reader
left_by r = reader_with r.gatherer r.desk

-- a step from place `at` on: it goes on, and what it prints, if anything, ends the call
pub record Moves (reader : Reader) (block : List ℕ) (at : ℕ) (out : List ℕ) (r : Left) (out' : List ℕ) : Type 0 where
  pub text : List ℕ
  pub room : length text ≤ length out
  pub printed : r.printed ≡ length text
  pub bytes : out' ≡ over text out
  pub some : 0 < r.used
  pub within : at + r.used ≤ length block
  pub is : feed_of reader (drop at block) ≡ on_turn r.gatherer (record { desk = r.desk; text = text }) r.used (feed_of (left_by r) (drop (at + r.used) block))

-- whether a call goes on after a step
abbrev pub goes_on : ℕ → Bool → ℕ → ℕ → Bool
goes_on printed closed at end = cond (ltb 0 printed) false (cond closed false (ltb at end))

-- all of them
pub record Reads (reader : Reader) (block out : List ℕ) (r : Left) (out' : List ℕ) : Type 0 where
  pub reader_is : left_by r ≡ reader_of (feed_of reader block)
  pub used : r.used ≡ (feed_of reader block).used
  pub printed : r.printed ≡ length (feed_of reader block).text
  pub bytes : out' ≡ over (feed_of reader block).text out
  pub room : length (feed_of reader block).text ≤ length out

-- the answer to a call, and to the input's end
abbrev pub fed_by : Left → Fed
fed_by r = record { reader = left_by r; used = r.used; printed = Ok r.printed }

abbrev pub ended_by : Gatherer → Told → Fed
ended_by gatherer told = record { reader = reader_with gatherer told.desk; used = 0; printed = told.printed }
