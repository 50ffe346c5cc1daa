-- `samples::same_setpoint` meets its contract: equal words have equal bytes, and the same bytes say the same setpoint. Assumes nothing.
use Rattle.std.proofs.Common.{ℕ, ◌-◌, ◌*◌, ◌/◌, ◌^◌, ap, arith, eqb-true}
use Rattle.samples.proofs.FieldScan.{field-within}
use Rattle.samples.proofs.FrontScan.{comparable, by-words}
use Rattle.samples.proofs.same_setpoint.Goals as goal

pub overflow_sub-tab : goal.overflow_sub-tab
overflow_sub-tab c =
    let k = comparable c.requires.kept c.if-lines-from.false in
    omega (arith, k.0, k.1, k.3, c.requires.kept.earlier)

pub word_at-here-requires : goal.word_at-here-requires
word_at-here-requires c =
    let k = comparable c.requires.kept c.if-lines-from.false in
    omega (arith, k.0, k.1, k.3, c.requires.kept.earlier, c.if-lines-from.false)

pub overflow_sub-spare : goal.overflow_sub-spare
overflow_sub-spare c = (comparable c.requires.kept c.if-lines-from.false).2

pub overflow_sub-former : goal.overflow_sub-former
overflow_sub-former c = (comparable c.requires.kept c.if-lines-from.false).1

pub word_at-there-requires : goal.word_at-there-requires
word_at-there-requires c =
    let k = comparable c.requires.kept c.if-lines-from.false in
    omega (arith, k.1, field-within (c.requires.kept.field k.1))

pub returns-then-here-there : goal.returns-then-here-there
returns-then-here-there c =
    by-words c.requires.kept c.if-lines-from.false c.word_at-here.ensures c.word_at-there.ensures
    (λ e. ap (λ (word : ℕ). word / 2 ^ (8 * (7 - c.args.former.width))) c.if-here-there.true)

pub returns : goal.returns
returns c =
    by-words c.requires.kept c.if-lines-from.false c.word_at-here.ensures c.word_at-there.ensures
    (λ e. eqb-true _ _ e)
