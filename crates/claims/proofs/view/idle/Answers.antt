-- `claims::view::idle` meets its contract.
-- Assumes nothing.
use Rattle.std.proofs.Common.{ne_eqb}
use Rattle.claims.specs.Views.{idle_of}
use Rattle.claims.proofs.view.idle.Goals.{then-part-eq0+then-unreached, then-part-eq0+else-unreached, else-part-eq0}
use Rattle.claims.proofs.view.idle.Goals as goal
use Rattle.std.proofs.Common.{inl, inr}

pub returns-then-part-eq0-2 : goal.returns-then-part-eq0-2
unfolding idle_of
returns-then-part-eq0-2 c =
    elim c.if-part-eq0-2.fact [
      | inl f ↦ rw (f.0, f.1)
      | inr f ↦ rw (f.0, ne_eqb c.args.part.outer.0 0 f.1, f.2)
    ]

pub returns-else-part-eq0-2 : goal.returns-else-part-eq0-2
unfolding idle_of
returns-else-part-eq0-2 c =
    let p = c.args.part in
    elim c.if-part-eq0.branch [
      | then-part-eq0+then-unreached w ↦
          elim c.if-part-eq0-2.fact [ inl f ↦ absurd (f.1 w.if-unreached.true) | inr f ↦ absurd (f w.if-part-eq0.true) ]
      | then-part-eq0+else-unreached w ↦
          elim c.if-part-eq0-2.fact [
            | inl f ↦ rw (w.t-4-is, f.0, ne_eqb p.outer.0 0 f.1, ne_eqb p.actual 0 f.2)
            | inr f ↦ absurd (f w.if-part-eq0.true)
          ]
      | else-part-eq0 w ↦ rw (w.t-4-is, ne_eqb p.setpoint 0 w.if-part-eq0.false)
    ]
