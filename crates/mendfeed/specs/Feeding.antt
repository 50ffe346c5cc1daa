-- What it is to feed a recording to a reader, cut into blocks in any way, with a buffer of any length that holds the text of a line.
use Rattle.std.specs.Prelude.{◌≡◌, ℕ, ◌≤◌, List}
use Rattle.lines.specs.Feed.{Outcome}
use Rattle.lines.specs.Feeding.{Feeds}
use Rattle.lines.specs.declared.Gatherer.{Gatherer}
use Rattle.mending.specs.Mender.{line_room}
use Rattle.mendfeed.specs.Reader.{closed_of, feed_of}
use Rattle.mending.specs.declared.mender.Mender.{Mender}
use Rattle.mendfeed.specs.declared.Reader.{Reader}

-- how a call comes out
pub record Called (g : Gatherer) (m : Mender) (block : List ℕ) (o : Outcome Mender) : Type 0 where
  pub room : ℕ
  pub enough : line_room ≤ room
  pub is : o ≡ feed_of room (record { gatherer = g; mender = m }) block

-- some bytes were fed to a reader, and this was printed
abbrev pub Fed : Reader → List ℕ → List ℕ → Reader → Type 0
Fed reader bytes text last = Feeds closed_of Called reader.gatherer reader.mender bytes text last.gatherer last.mender

-- whatever was printed
pub record Through (reader : Reader) (bytes : List ℕ) (last : Reader) : Type 0 where
  pub text : List ℕ
  pub feeds : Fed reader bytes text last
