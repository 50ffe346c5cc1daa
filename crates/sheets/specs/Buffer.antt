-- What a call that prints answers, and what it leaves of the lent buffer (docs/RULES.md, 'Calls').
use Rattle.std.specs.Prelude.{ℕ, ◌≤◌, ◌≡◌, cond, List, ◌++◌, leb, ltb, length, drop, Result, Ok, Err}
use Rattle.std.specs.Result.{result_unwrap_or}
use Rattle.vocabulary.specs.declared.refusal.Refusal.{Refusal}
use Rattle.vocabulary.specs.declared.refusal.Refusal.TheVariants.{BufferTooShort}
use Rattle.vocabulary.specs.Refusals as refusals

-- no text that is printed at once is longer
abbrev pub buffer_length : ℕ
buffer_length = 16384

-- what a call that prints answers: the length of its text, or why nothing was printed
abbrev pub Printed : Type 0
Printed = Result ℕ Refusal

-- 16 where the buffer is shorter than the text, and 0 where nothing is refused
abbrev pub number_of : Printed → ℕ
number_of (Ok length) = 0
number_of (Err refusal) = refusals.number_of (Err refusal)

-- how many bytes were printed
abbrev pub length_of : Printed → ℕ
length_of printed = result_unwrap_or printed 0

-- a text at a buffer's start, and the bytes after it as they were
abbrev pub over : List ℕ → List ℕ → List ℕ
over text buffer = text ++ drop (length text) buffer

-- the text's length, where the buffer has room for it
abbrev pub print_answer : List ℕ → List ℕ → Printed
print_answer buffer text = cond (leb (length text) (length buffer)) (Ok (length text)) (Err BufferTooShort)

-- the text at the buffer's start and the bytes after it as they were; where there is no room, every byte as it was
abbrev pub print_into : List ℕ → List ℕ → List ℕ
print_into buffer text = cond (leb (length text) (length buffer)) (over text buffer) buffer

-- A CALL THAT WANTS SO MUCH ROOM, whatever it answers: with less nothing is done, and `none` says so; else `whole`, and a text at the buffer's start. What was
-- printed is within the buffer
pub record Yields {F : Type 0} (printed : F → Printed) (want : ℕ) (out : List ℕ) (none whole : F) (text : List ℕ) (r : F) (out' : List ℕ) : Type 0 where
  pub answer : r ≡ cond (ltb (length out) want) none whole
  pub bytes : out' ≡ cond (ltb (length out) want) out (over text out)
  pub room : length_of (printed r) ≤ length out
