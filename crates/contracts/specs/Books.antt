-- The contract lists of both directions: one direction's is looked at and changed alone, but for an identifier, which neither may have yet.
use Rattle.std.specs.Prelude.{List, ℕ}
use Rattle.vocabulary.specs.Refusals.{Ruling}
use Rattle.vocabulary.specs.declared.contract.Contract.{Contract}
use Rattle.vocabulary.specs.declared.direction.Direction.{Direction}
use Rattle.vocabulary.specs.declared.direction.Direction.TheVariants.{Positive, Negative}
use Rattle.vocabulary.specs.Direction.{mirror_of}
use Rattle.contracts.specs.Book.{empty_book, contract_refusal, with_contract}
use Rattle.contracts.specs.declared.book.Book.{Book}
use Rattle.contracts.specs.declared.books.Books.{Books}

-- the list of a direction
abbrev pub book_in : Direction → Books → Book
book_in Positive books = books.positive
book_in Negative books = books.negative

-- both, with another list in a direction
abbrev pub with_book : Direction → Book → Books → Books
with_book Positive book books = record { positive = book; negative = books.negative }
with_book Negative book books = record { positive = books.positive; negative = book }

-- no contract in either
unfoldable pub no_books : Books
no_books = record { positive = empty_book; negative = empty_book }

-- why one contract more is refused, in its direction: 6 to 12
unfoldable pub books_refusal : Books → Contract → List ℕ → Ruling
books_refusal books c identifier = contract_refusal (book_in c.direction books) (book_in (mirror_of c.direction) books) identifier c.award c.price

-- with one contract more in its direction
unfoldable pub with_contract_in : Books → Contract → List ℕ → Books
with_contract_in books c identifier = with_book c.direction (with_contract (book_in c.direction books) identifier c.award c.price) books
