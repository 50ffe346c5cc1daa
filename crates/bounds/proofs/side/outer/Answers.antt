-- `bounds::side::outer` meets its contract: the farther out of two numbers of 32 bits is one of them.
-- Assumes nothing.
use mathlib.Core.Path.{◌≡◌, ◌∙◌}
use mir.Syntax.{w32}
use mir.Val.{SFits}
use mir.ValLaws.{to_z-of_z}
use Rattle.arithmetic.proofs.Signed.{back}
use Rattle.bounds.specs.Side.{farther_of}
use Rattle.bounds.proofs.Sides.{farther-ind}
use Rattle.bounds.proofs.side.outer.Goals.{After-farther}
use Rattle.bounds.proofs.side.outer.Goals as goal

found : (c : After-farther) → c.farther.result ≡ farther_of c.args.side c.args.a c.args.b
found c =
    c.farther.ensures
    ∙ rw (back {z = c.from.result} c.from.type_inv, back {z = c.from-2.result} c.from-2.type_inv, c.from.ensures, c.from-2.ensures, to_z-of_z w32 c.args.a c.ranges.a, to_z-of_z w32 c.args.b c.ranges.b)

fit : (c : After-farther) → SFits w32 c.farther.result
fit c = rw (found c) (farther-ind (SFits w32) c.args.side c.args.a c.args.b c.ranges.a c.ranges.b)

pub overflow_cast-result : goal.overflow_cast-result
overflow_cast-result c = rw (back {z = c.farther.result} c.farther.type_inv) (fit (goal.at.overflow_cast-result c).After-farther)

pub returns : goal.returns
returns c = rw (back {z = c.farther.result} c.farther.type_inv, to_z-of_z w32 c.farther.result (fit (goal.at.returns c).After-farther)) (found (goal.at.returns c).After-farther)
