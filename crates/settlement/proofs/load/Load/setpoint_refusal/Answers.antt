-- `settlement::load::Load::setpoint_refusal` meets its contract: each test is that of the definition, in its order.
-- Assumes nothing.
use Rattle.std.proofs.Common.{sym, ◌∙◌, ◌≡◌}
use mir.Syntax.{w32}
use mir.ValLaws.{to_z-of_z}
use borrow.Author.Tests.{eq-eqb, ne_eqb}
use Rattle.vocabulary.specs.Sample.{power_in_range}
use Rattle.settlement.specs.Load.{between, setpoint_refusal}
use Rattle.settlement.proofs.load.Load.setpoint_refusal.Goals.{After-in_range, After-lies_between, then-not-untouched-via-then-not-untouched, then-not-untouched-via-else-not-untouched+then-not-self, else-newest-via-then-newest+else-not-lies_between, else-newest-via-else-newest}
use Rattle.settlement.proofs.load.Load.setpoint_refusal.Goals as goal

pub returns-then-not-untouched : goal.returns-then-not-untouched
unfolding setpoint_refusal
returns-then-not-untouched c =
    elim c.then-not-untouched.branch [
      | then-not-untouched-via-then-not-untouched w ↦ rw w.if-not-untouched.true
      | then-not-untouched-via-else-not-untouched+then-not-self w ↦ rw (w.if-not-untouched.false, w.if-not-self.true)
    ]

pub returns-then-self-eq0 : goal.returns-then-self-eq0
unfolding setpoint_refusal
returns-then-self-eq0 c = rw (c.if-not-untouched.false, c.if-not-self.false, eq-eqb _ _ c.if-self-eq0.true)

-- what each test of the setpoint says of the definition's
range-told : (c : After-in_range) → c.in_range.result ≡ power_in_range c.args.setpoint
range-told c = c.in_range.ensures ∙ rw (to_z-of_z w32 c.args.setpoint c.ranges.setpoint)

pub returns-then-not-in_range : goal.returns-then-not-in_range
unfolding setpoint_refusal
returns-then-not-in_range c =
    let p = sym (range-told (goal.at.returns-then-not-in_range c).After-in_range) ∙ c.if-not-in_range.true in
    rw (c.if-not-untouched.false, c.if-not-self.false, ne_eqb _ _ c.if-self-eq0.false, p)

between-told : (c : After-lies_between) → c.lies_between.result ≡ between c.args.self.bounds c.args.setpoint
between-told c = c.lies_between.ensures ∙ rw (to_z-of_z w32 c.args.setpoint c.ranges.setpoint)

pub returns-then-not-lies_between : goal.returns-then-not-lies_between
unfolding setpoint_refusal
returns-then-not-lies_between c =
    let at = goal.at.returns-then-not-lies_between c in
    let p = sym (range-told at.After-in_range) ∙ c.if-not-in_range.false in
    let q = sym (between-told at.After-lies_between) ∙ c.if-not-lies_between.true in
    rw (c.if-not-untouched.false, c.if-not-self.false, ne_eqb _ _ c.if-self-eq0.false, p, eq-eqb _ _ c.if-newest.true, q)

pub returns : goal.returns
unfolding setpoint_refusal
returns c =
    let p = sym (range-told (goal.at.returns c).After-in_range) ∙ c.if-not-in_range.false in
    rw (c.if-not-untouched.false, c.if-not-self.false, ne_eqb _ _ c.if-self-eq0.false, p)
    (elim c.else-newest.branch [
      | else-newest-via-then-newest+else-not-lies_between w ↦
          let told : w.lies_between.result ≡ between c.args.self.bounds c.args.setpoint = w.lies_between.ensures ∙ rw (to_z-of_z w32 c.args.setpoint c.ranges.setpoint) in
          rw (eq-eqb _ _ w.if-newest.true, sym told ∙ w.if-not-lies_between.false)
      | else-newest-via-else-newest w ↦ rw (ne_eqb _ _ w.if-newest.false)
    ])
