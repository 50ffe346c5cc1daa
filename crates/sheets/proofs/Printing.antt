-- A text that was measured is refused or written, in a buffer that may be too short for it.
use Prim.Native.Nat.{ℕ, ◌≤◌, ◌<◌}
use mathlib.Core.Path.{◌≡◌, ap}
use mathlib.Core.List.{List}
use native.Mathlib.Omega.{arith}
use borrow.Author.Tests.{le-leb, lt-leb}
use lib.Dec.{leb}
use mathlib.Core.Bool.{true, false}
use lib.ListN.{length}
use Rattle.print.specs.Print.{last}
use Rattle.print.proofs.Writing.{at-start, measured}
use Rattle.sheets.specs.Buffer.{buffer_length, number_of, print_answer}
use Rattle.sheets.specs.Putting.{WroteUpTo, RefusedOrWritten}
use Rattle.std.proofs.Common.{Ok, Err}
use Rattle.vocabulary.specs.declared.refusal.Refusal.TheVariants.{BufferTooShort}

-- a text that a buffer could hold is measured right
length-known : {most n : ℕ} {z z' text : List ℕ} → WroteUpTo most z 0 text n z' → most ≤ last → n ≡ length text
length-known p h = measured p.wrote (omega arith)

-- shorter than the measure: no byte is changed
pub refused : {most n : ℕ} {z z' d text : List ℕ} → most ≤ buffer_length → WroteUpTo most z 0 text n z' → length d < n → RefusedOrWritten most d text (Err BufferTooShort) d
refused {d = d} {text = text} few p s =
    let l : _ ≡ length text = length-known p (omega arith) in
    let e : leb (length text) (length d) ≡ false = lt-leb (length text) (length d) (omega arith) in
    record { answer = rw e; bytes = rw e; short = p.short }

-- long enough: the text, its length, and the rest as it was
pub written : {most r : ℕ} {d d' text : List ℕ} → most ≤ buffer_length → length text ≤ length d → WroteUpTo most d 0 text r d' → RefusedOrWritten most d text (Ok r) d'
written {d = d} {text = text} few h w =
    let e : leb (length text) (length d) ≡ true = le-leb (length text) (length d) h in
    record { answer = rw e (ap Ok (length-known w (omega arith))); bytes = rw e (at-start w.wrote (omega arith)); short = w.short }

-- by the measure
pub measured-room : {most n : ℕ} {z z' text : List ℕ} (d : List ℕ) → most ≤ buffer_length → WroteUpTo most z 0 text n z' → n ≤ length d → length text ≤ length d
measured-room d few p h = let l : _ ≡ _ = length-known p (omega arith) in omega arith

-- a buffer that has room for every text of its kind is never too short
pub room-enough : (d text : List ℕ) (room : ℕ) → length text ≤ room → room ≤ length d → print_answer d text ≡ Ok (length text)
room-enough d text room h k = rw (le-leb (length text) (length d) (omega arith))

-- 16 exactly where the buffer is shorter than the text
pub number_short : (d text : List ℕ) → length d < length text → number_of (print_answer d text) ≡ 16
number_short d text h = rw (lt-leb (length text) (length d) h)

pub number-none : (d text : List ℕ) → length text ≤ length d → number_of (print_answer d text) ≡ 0
number-none d text h = rw (le-leb (length text) (length d) h)
