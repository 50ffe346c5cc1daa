-- The contracts of a direction as a quarter hour takes them ('Slices'): their awards and prices, and the limits of their slices.
use Rattle.std.specs.Prelude.{ℕ, ◌+◌, ◌*◌, List, pos, take}
use Rattle.series.specs.Scan.{outputs, each}
use Rattle.contracts.specs.declared.book.Awarded.{Awarded}
use Rattle.contracts.specs.declared.book.Book.{Book}
use Rattle.contracts.specs.declared.terms.Terms.{Terms}
use Rattle.contracts.specs.Book.{held_of}

-- a contract's award and price
unfoldable pub terms_of : Awarded → Terms
terms_of c = record { award = c.award; price = c.price }

-- those of a contract list
abbrev pub terms_in : Book → List Terms
terms_in book = take (held_of book) (each terms_of book.contracts)

-- a place that has no contract
abbrev pub no_terms : Terms
no_terms = record { award = 0; price = pos 0 }

-- a contract's upper limit, by its lower one: with its own award, in units
unfoldable pub upper_of : ℕ → Terms → ℕ
upper_of low t = low + t.award * 5400

-- the upper limits: each is the sum of the awards up to and including its own
abbrev pub limits_of : List Terms → List ℕ
limits_of = outputs upper_of upper_of 0
