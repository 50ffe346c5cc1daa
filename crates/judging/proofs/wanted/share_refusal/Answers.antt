-- `judging::wanted::share_refusal` meets its contract, ground by ground. Assumes nothing.
use Rattle.arithmetic.specs.Whole.{least_of}
use Rattle.contracts.specs.Book.{held_of}
use Rattle.judging.proofs.WantedLaws.{among}
use Rattle.judging.specs.Wanted.{wanted_in, per_quarter, share_ground}
use Rattle.vocabulary.specs.declared.direction.Direction.TheVariants.{Positive, Negative}
use mathlib.Core.Path.{◌≡◌, sym, ◌∙◌}
use borrow.Author.Tests.{not-true, not-false}
use Prim.Native.Nat.{◌+◌, ◌≤◌, ◌<◌}
use native.Mathlib.Nat.{mul-le-mul}
use native.Mathlib.Omega.{arith}
use Rattle.std.proofs.Common.{rules}
use Rattle.judging.proofs.wanted.share_refusal.Goals as goal

pub returns-then-not-well_formed : goal.returns-then-not-well_formed
unfolding share_ground
returns-then-not-well_formed c = record {
  is = rw (sym c.well_formed-2.ensures ∙ c.if-not-well_formed.true);
  few = λ z. absurd (omega (arith, z));
}

pub returns-then-not-is_wanted : goal.returns-then-not-is_wanted
unfolding share_ground
returns-then-not-is_wanted c =
    record {
      is = rw (sym c.well_formed-2.ensures ∙ c.if-not-well_formed.false, sym c.is_wanted.ensures ∙ c.if-not-is_wanted.true);
      few = λ z. absurd (omega (arith, z));
    }

pub returns : goal.returns
unfolding share_ground wanted_in held_of least_of
returns c =
    let told = sym c.is_wanted.ensures ∙ c.if-not-is_wanted.false in
    let day : c.args.quarters ≤ 255 = omega (arith, c.ranges.quarters) in
    let few : per_quarter c.args.books ≤ 64 = omega arith in record {
      is = rw (sym c.well_formed-2.ensures ∙ c.if-not-well_formed.false, told);
      few = λ z. omega (arith, among c.args.books c.args.quarters c.args.given c.args.share _ told, mul-le-mul day few);
    }
