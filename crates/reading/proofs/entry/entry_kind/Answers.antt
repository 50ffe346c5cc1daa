-- `reading::entry::entry_kind` meets its contract: one byte is a letter or another, and no other field is one. Assumes nothing.
use Rattle.std.proofs.Common.{◌≡◌, length, get_or, arith, eq-eqb, ne_eqb}
use Rattle.reading.specs.Line.{is_letter}
use Rattle.reading.specs.Entry.{entry_kind_of}
use Rattle.reading.proofs.entry.entry_kind.Goals as goal

pub returns-in-G : goal.returns-in-G
unfolding entry_kind_of is_letter
returns-in-G c = let one : length c.args.field.now ≡ 1 = omega arith in let byte : get_or c.args.field.now 0 0 ≡ 71 = omega arith in rw (eq-eqb _ _ one, byte)

pub returns-in-D : goal.returns-in-D
unfolding entry_kind_of is_letter
returns-in-D c = let one : length c.args.field.now ≡ 1 = omega arith in let byte : get_or c.args.field.now 0 0 ≡ 68 = omega arith in rw (eq-eqb _ _ one, byte)

pub returns-in-E : goal.returns-in-E
unfolding entry_kind_of is_letter
returns-in-E c = let one : length c.args.field.now ≡ 1 = omega arith in let byte : get_or c.args.field.now 0 0 ≡ 69 = omega arith in rw (eq-eqb _ _ one, byte)

pub returns-in_default : goal.returns-in_default
unfolding entry_kind_of is_letter
returns-in_default c = rw (ne_eqb (length c.args.field.now) 1 (λ e. omega arith))

pub returns-in_default-2 : goal.returns-in_default-2
unfolding entry_kind_of is_letter
returns-in_default-2 c =
    let one : length c.args.field.now ≡ 1 = omega arith in
    rw (
      eq-eqb _ _ one,
      ne_eqb (get_or c.args.field.now 0 0) 71 (λ e. omega arith),
      ne_eqb (get_or c.args.field.now 0 0) 68 (λ e. omega arith),
      ne_eqb (get_or c.args.field.now 0 0) 69 (λ e. omega arith),
    )

pub returns-in_default-3 : goal.returns-in_default-3
unfolding entry_kind_of is_letter
returns-in_default-3 c = rw (ne_eqb (length c.args.field.now) 1 (λ e. omega arith))
