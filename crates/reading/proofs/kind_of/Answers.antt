-- `reading::kind_of` meets its contract: one byte is a letter or another, and no other field is one. Assumes nothing.
use Rattle.std.proofs.Common.{◌≡◌, length, get_or, arith, eq-eqb, ne_eqb}
use Rattle.reading.specs.Line.{is_letter, kind_of}
use Rattle.reading.proofs.kind_of.Goals as goal

pub returns-in-D : goal.returns-in-D
unfolding kind_of is_letter
returns-in-D c = let one : length c.args.field.now ≡ 1 = omega arith in let byte : get_or c.args.field.now 0 0 ≡ 68 = omega arith in rw (eq-eqb _ _ one, byte)

pub returns-in-O : goal.returns-in-O
unfolding kind_of is_letter
returns-in-O c = let one : length c.args.field.now ≡ 1 = omega arith in let byte : get_or c.args.field.now 0 0 ≡ 79 = omega arith in rw (eq-eqb _ _ one, byte)

pub returns-in-B : goal.returns-in-B
unfolding kind_of is_letter
returns-in-B c = let one : length c.args.field.now ≡ 1 = omega arith in let byte : get_or c.args.field.now 0 0 ≡ 66 = omega arith in rw (eq-eqb _ _ one, byte)

pub returns-in-C : goal.returns-in-C
unfolding kind_of is_letter
returns-in-C c = let one : length c.args.field.now ≡ 1 = omega arith in let byte : get_or c.args.field.now 0 0 ≡ 67 = omega arith in rw (eq-eqb _ _ one, byte)

pub returns-in-S : goal.returns-in-S
unfolding kind_of is_letter
returns-in-S c = let one : length c.args.field.now ≡ 1 = omega arith in let byte : get_or c.args.field.now 0 0 ≡ 83 = omega arith in rw (eq-eqb _ _ one, byte)

pub returns-in-E : goal.returns-in-E
unfolding kind_of is_letter
returns-in-E c = let one : length c.args.field.now ≡ 1 = omega arith in let byte : get_or c.args.field.now 0 0 ≡ 69 = omega arith in rw (eq-eqb _ _ one, byte)

pub returns-in_default : goal.returns-in_default
unfolding kind_of is_letter
returns-in_default c = rw (ne_eqb (length c.args.field.now) 1 (λ e. omega arith))

pub returns-in_default-2 : goal.returns-in_default-2
unfolding kind_of is_letter
returns-in_default-2 c =
    let one : length c.args.field.now ≡ 1 = omega arith in
    rw (
      eq-eqb _ _ one,
      ne_eqb (get_or c.args.field.now 0 0) 68 (λ e. omega arith),
      ne_eqb (get_or c.args.field.now 0 0) 79 (λ e. omega arith),
      ne_eqb (get_or c.args.field.now 0 0) 66 (λ e. omega arith),
      ne_eqb (get_or c.args.field.now 0 0) 67 (λ e. omega arith),
      ne_eqb (get_or c.args.field.now 0 0) 83 (λ e. omega arith),
      ne_eqb (get_or c.args.field.now 0 0) 69 (λ e. omega arith),
    )

pub returns-in_default-3 : goal.returns-in_default-3
unfolding kind_of is_letter
returns-in_default-3 c = rw (ne_eqb (length c.args.field.now) 1 (λ e. omega arith))
