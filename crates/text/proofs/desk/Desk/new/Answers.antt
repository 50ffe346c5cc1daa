-- `text::desk::Desk::new` meets its contract. Assumes nothing.
use Rattle.text.specs.Desk.{empty_desk}
use Rattle.text.proofs.desk.Desk.new.Goals as goal

pub returns : goal.returns
unfolding empty_desk
returns c = rw c.unopened.ensures
