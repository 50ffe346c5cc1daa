-- No second answer fits a call of `contracts`.
use mathlib.Core.Path.{◌∙◌, sym}
use Rattle.binding.specs.Single.{Single}
use Rattle.contracts.proofs.book.no_contract.Reads as no-contract
use Rattle.contracts.proofs.book.Book.contracts.Reads as contracts
use Rattle.contracts.proofs.book.Book.count.Reads as count
use Rattle.contracts.proofs.book.Book.names.Reads as names
use Rattle.contracts.proofs.books.Books.new.Reads as new
use Rattle.contracts.proofs.books.Books.book.Reads as book
use Rattle.contracts.proofs.books.Books.refusal.Reads as refusal
use Rattle.contracts.proofs.books.Books.with.Reads as with
use Rattle.contracts.proofs.identifier.well_formed.Reads as well-formed
use Rattle.contracts.proofs.book.Book.held.Reads as held
use Rattle.contracts.proofs.book.Book.terms.Reads as terms
use Rattle.contracts.proofs.terms.limits.Reads as limits

no-contract-single : Single no-contract.Post
no-contract-single κs a r r' x x' p q = p ∙ sym q

contracts-single : Single contracts.Post
contracts-single κs a r r' x x' p q = p ∙ sym q

count-single : Single count.Post
count-single κs a r r' x x' p q = p ∙ sym q

new-single : Single new.Post
new-single κs a r r' x x' p q = p ∙ sym q

book-single : Single book.Post
book-single κs a r r' x x' p q = p ∙ sym q

refusal-single : Single refusal.Post
refusal-single κs a r r' x x' p q = p ∙ sym q

with-single : Single with.Post
with-single κs a r r' x x' p q = p ∙ sym q

well-formed-single : Single well-formed.Post
well-formed-single κs a r r' x x' p q = p ∙ sym q

held-single : Single held.Post
held-single κs a r r' x x' p q = p.is ∙ sym q.is

terms-single : Single terms.Post
terms-single κs a r r' x x' p q = p ∙ sym q

limits-single : Single limits.Post
limits-single κs a r r' x x' p q = p ∙ sym q

names-single : Single names.Post
names-single κs a r r' x x' p q = p ∙ sym q
