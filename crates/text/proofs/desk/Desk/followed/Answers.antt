-- `text::desk::Desk::followed` meets its contract. Assumes nothing.
use Rattle.text.proofs.Telling.{silent}
use Rattle.text.specs.Serving.{followed_turn}
use Rattle.std.proofs.Common.{inl, inr}
use Rattle.text.proofs.desk.Desk.followed.Goals as goal

pub returns-in-Header : goal.returns-in-Header
unfolding followed_turn
returns-in-Header c = rw c.in-Header.is c.«open».ensures

pub returns-in-Sample : goal.returns-in-Sample
unfolding followed_turn
returns-in-Sample c = rw c.in-Sample.is c.quarter.ensures

pub returns-in-End : goal.returns-in-End
unfolding followed_turn
returns-in-End c = rw c.in-End.is c.end.ensures

pub returns-in-Bounds : goal.returns-in-Bounds
unfolding followed_turn
returns-in-Bounds c =
    elim c.in-Bounds.is [
      | inl bounds ↦ rw (bounds.1, c.silent.ensures) (silent _ _)
      | inr other ↦
          elim other [
            | inl setpoint ↦ rw (setpoint.1, c.silent.ensures) (silent _ _)
            | inr another ↦
                elim another [
                  | inl contract ↦ rw (contract.1, c.silent.ensures) (silent _ _)
                  | inr malformed ↦ rw (malformed, c.silent.ensures) (silent _ _)
                ]
          ]
    ]
