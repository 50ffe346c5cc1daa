-- `mending::mender::Mender::sorted` meets its contract. Assumes nothing.
use Rattle.std.proofs.Common.{◌≡◌, ℕ, ◌/◌, ap, ◌∙◌, to_z-of_z, le-ltb, lt-ltb}
use Rattle.mending.specs.Mending.{outside, place_of, seconds_of}
use Rattle.mending.specs.Mender.{sorted_at}
use Rattle.mending.proofs.mender.Mender.sorted.Goals.{After-is_outside, After-place_of-place}
use Rattle.mending.proofs.mender.Mender.sorted.Goals as goal

told-outside : (c : After-is_outside) → c.is_outside.result ≡ outside c.args.self.grid c.args.second
told-outside c = rw (to_z-of_z c.ranges.second) at c.is_outside.ensures

told-place : (c : After-place_of-place) → c.place_of-place.result ≡ place_of c.args.self.grid c.args.second
told-place c = c.place_of-place.ensures ∙ ap (λ (n : ℕ). n / seconds_of c.args.self.grid) (rw (to_z-of_z c.ranges.second) at c.above_zero.ensures)

pub returns-then-is_outside : goal.returns-then-is_outside
unfolding sorted_at
returns-then-is_outside c = rw (← told-outside (goal.at.returns-then-is_outside c).After-is_outside, c.if-is_outside.true)

pub returns-then-from-self : goal.returns-then-from-self
unfolding sorted_at
returns-then-from-self c =
    rw (
      ← told-outside (goal.at.returns-then-from-self c).After-is_outside,
      c.if-is_outside.false,
      ← told-place (goal.at.returns-then-from-self c).After-place_of-place,
      ← c.from.ensures,
      lt-ltb _ _ c.if-from-self.true,
    )

pub returns : goal.returns
unfolding sorted_at
returns c =
    rw (
      ← told-outside (goal.at.returns c).After-is_outside,
      c.if-is_outside.false,
      ← told-place (goal.at.returns c).After-place_of-place,
      ← c.from.ensures,
      le-ltb _ _ c.if-from-self.false,
    )
