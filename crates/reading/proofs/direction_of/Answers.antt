-- `reading::direction_of` meets its contract: one byte is a letter or another, and no other field is one. Assumes nothing.
use Rattle.std.proofs.Common.{◌≡◌, length, get_or, arith, eq-eqb, ne_eqb}
use Rattle.reading.specs.Line.{is_letter, direction_of}
use Rattle.reading.proofs.direction_of.Goals as goal

pub returns-in-P : goal.returns-in-P
unfolding direction_of is_letter
returns-in-P c = let one : length c.args.field.now ≡ 1 = omega arith in let byte : get_or c.args.field.now 0 0 ≡ 80 = omega arith in rw (eq-eqb _ _ one, byte)

pub returns-in-N : goal.returns-in-N
unfolding direction_of is_letter
returns-in-N c = let one : length c.args.field.now ≡ 1 = omega arith in let byte : get_or c.args.field.now 0 0 ≡ 78 = omega arith in rw (eq-eqb _ _ one, byte)

pub returns-in_default : goal.returns-in_default
unfolding direction_of is_letter
returns-in_default c = rw (ne_eqb (length c.args.field.now) 1 (λ e. omega arith))

pub returns-in_default-2 : goal.returns-in_default-2
unfolding direction_of is_letter
returns-in_default-2 c =
    let one : length c.args.field.now ≡ 1 = omega arith in
    rw (
      eq-eqb _ _ one,
      ne_eqb (get_or c.args.field.now 0 0) 80 (λ e. omega arith),
      ne_eqb (get_or c.args.field.now 0 0) 78 (λ e. omega arith),
    )

pub returns-in_default-3 : goal.returns-in_default-3
unfolding direction_of is_letter
returns-in_default-3 c = rw (ne_eqb (length c.args.field.now) 1 (λ e. omega arith))
