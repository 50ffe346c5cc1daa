-- `claims::hour::both` meets its contract: what is left in the series by one direction keeps their room for the other.
-- Assumes nothing.
use Rattle.vocabulary.specs.declared.direction.Direction.{Direction}
use Rattle.vocabulary.specs.declared.direction.Direction.TheVariants.{Positive, Negative}
use Rattle.contracts.specs.declared.book.Book.{Book}
use Rattle.contracts.specs.Terms.{terms_in}
use Rattle.claims.specs.declared.hour.Energies.{Energies}
use Rattle.claims.specs.Powers.{lent, powers_of}
use Rattle.claims.specs.Claims.{energies_of}
use Rattle.claims.proofs.Following.{both-are}
use Rattle.claims.proofs.hour.both.Goals as goal

pub returns : goal.returns
returns c =
    let a = c.args in
    let x = lent a.samples in
    let of : Direction → Book → Energies = λ d book. energies_of a.seconds (powers_of d x) (terms_in book) in
    both-are a.after c.listed-above.result (of Positive a.positive) c.listed-below.result (of Negative a.negative) c.listed-above.ensures c.listed-below.ensures
