-- What it is to feed an input to a reader, cut into blocks in any way.
use Rattle.std.specs.Prelude.{ℕ, ◌≡◌, true, List, [], ◌++◌, drop}
use Rattle.feed.specs.Reader.{closed_of, feed_of, reader_of}
use Rattle.feed.specs.declared.Reader.{Reader}

-- Feeding some bytes to a reader prints a text and leaves a reader. Each call is handed as many of the bytes that are left as one likes; those
-- that it did not use are left, before the others. It ends where no byte is left, or where the desk is closed.
pub data Feeds : Reader → List ℕ → List ℕ → Reader → Type 0 where
  used_up : {reader : Reader} → Feeds reader [] [] reader
  closed : {reader : Reader} {left : List ℕ} → closed_of reader.desk ≡ true → Feeds reader left [] reader
  call : {reader last : Reader} {text : List ℕ} (block others : List ℕ)
      → Feeds (reader_of (feed_of reader block)) (drop (feed_of reader block).used block ++ others) text last
      → Feeds reader (block ++ others) ((feed_of reader block).text ++ text) last

-- some bytes were fed to a reader, whatever was printed
pub record Through (reader : Reader) (bytes : List ℕ) (last : Reader) : Type 0 where
  pub text : List ℕ
  pub feeds : Feeds reader bytes text last
