-- `mending::mender::Mender::row_refusal` meets its contract. Assumes nothing.
use Rattle.std.proofs.Common.{◌≡◌, ℤ, Bool, Option, sym, ◌∙◌, to_z-of_z, to_z, of_z, w32, SFits, rules}
use Rattle.vocabulary.specs.Sample.{power_in_range}
use Rattle.vocabulary.proofs.Answers.{err-refused}
use Rattle.mending.specs.Mender.{earlier_than, row_refusal}
use Rattle.mending.proofs.mender.Mender.row_refusal.Goals.{then-not-in_range-via-then-not-in_range, then-not-in_range-via-else-not-in_range+then-not-in_range-2}
use Rattle.mending.proofs.mender.Mender.row_refusal.Goals as goal

-- what a call says of a number of 32 bits
ranged : (z : ℤ) {b t : Bool} → SFits w32 z → b ≡ power_in_range (to_z w32 (of_z w32 z)) → b ≡ t → power_in_range z ≡ t
ranged z f e h = sym (rw (to_z-of_z f) at e) ∙ h

later : (before : Option ℤ) (z : ℤ) {b t : Bool} → SFits w32 z → b ≡ earlier_than before (to_z w32 (of_z w32 z)) → b ≡ t → earlier_than before z ≡ t
later before z f e h = sym (rw (to_z-of_z f) at e) ∙ h

pub returns-then-not-in_range : goal.returns-then-not-in_range
unfolding row_refusal
returns-then-not-in_range c =
    let f : SFits w32 c.args.row.sample.setpoint = search rules in
    let g : SFits w32 c.args.row.sample.actual = search rules in
    elim c.then-not-in_range.branch [
      | then-not-in_range-via-then-not-in_range w ↦ rw (ranged _ f c.in_range.ensures w.if-not-in_range.true)
      | then-not-in_range-via-else-not-in_range+then-not-in_range-2 w ↦ rw (
        ranged _ f c.in_range.ensures w.if-not-in_range.false,
        ranged _ g w.in_range-else-not-in_range.ensures w.if-not-in_range-2.true,
      )
    ]

pub returns-in_err-sorted_refusal : goal.returns-in_err-sorted_refusal
unfolding row_refusal
returns-in_err-sorted_refusal c =
    let f : SFits w32 c.args.row.sample.setpoint = search rules in
    let g : SFits w32 c.args.row.sample.actual = search rules in
    rw (
      ranged _ f c.in_range.ensures c.if-not-in_range.false,
      ranged _ g c.in_range-else-not-in_range.ensures c.if-not-in_range-2.false,
      ← c.sorted_refusal.ensures,
      c.in_err-sorted_refusal.was,
      err-refused c.in_err-sorted_refusal.field-0.0,
    ) (search rules)

pub returns-then-is_earlier : goal.returns-then-is_earlier
unfolding row_refusal
returns-then-is_earlier c =
    let f : SFits w32 c.args.row.sample.setpoint = search rules in
    let g : SFits w32 c.args.row.sample.actual = search rules in
    let h : SFits w32 c.args.row.second = search rules in
    rw (
      ranged _ f c.in_range.ensures c.if-not-in_range.false,
      ranged _ g c.in_range-else-not-in_range.ensures c.if-not-in_range-2.false,
      ← c.in_ok-sorted_refusal.ensures,
      later c.args.self.before _ h c.is_earlier.ensures c.if-is_earlier.true,
    )

pub returns : goal.returns
unfolding row_refusal
returns c =
    let f : SFits w32 c.args.row.sample.setpoint = search rules in
    let g : SFits w32 c.args.row.sample.actual = search rules in
    let h : SFits w32 c.args.row.second = search rules in
    rw (
      ranged _ f c.in_range.ensures c.if-not-in_range.false,
      ranged _ g c.in_range-else-not-in_range.ensures c.if-not-in_range-2.false,
      ← c.in_ok-sorted_refusal.ensures,
      later c.args.self.before _ h c.is_earlier.ensures c.if-is_earlier.false,
    )
