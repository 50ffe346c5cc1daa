-- What functions that print tell each other: a text is put as `print` puts text, and how long it is at most.
use Rattle.std.specs.Prelude.{ℕ, ◌≤◌, ◌≡◌, List, ◌++◌, length}
use Rattle.print.specs.Print.{Wrote}
use Rattle.print.specs.Fields.{tabbed}
use Rattle.sheets.specs.Buffer.{Printed, print_answer, print_into}

-- the text is written into d from place at on, r is the place after it, and it is at most so many bytes long
pub record WroteUpTo (most : ℕ) (d : List ℕ) (at : ℕ) (text : List ℕ) (r : ℕ) (d' : List ℕ) : Type 0 where
  pub wrote : Wrote d at text r d'
  pub short : length text ≤ most

-- the text is a line's letter, where it has one, and fields after it
pub record FieldsUpTo (most : ℕ) (d : List ℕ) (at : ℕ) (letter : List ℕ) (fields : List (List ℕ)) (r : ℕ) (d' : List ℕ) : Type 0 where
  pub text : WroteUpTo most d at (letter ++ tabbed fields) r d'

-- a text of at most so many bytes is refused where the buffer is shorter, and else written at its start
pub record RefusedOrWritten (most : ℕ) (d : List ℕ) (text : List ℕ) (r : Printed) (d' : List ℕ) : Type 0 where
  pub answer : r ≡ print_answer d text
  pub bytes : d' ≡ print_into d text
  pub short : length text ≤ most
