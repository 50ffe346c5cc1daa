-- `fields::split::Split::field` meets its contract: the bytes at a place, which is the field's own if the line is the one that was split.
-- Assumes nothing.
use Rattle.std.proofs.Common.{◌≡◌, length, ap, ◌∙◌, arith, le-leb}
use Rattle.fields.specs.declared.split.Split.{Split}
use Rattle.fields.specs.Split.{nowhere, bytes_at, held_at}
use Rattle.fields.proofs.SplitLaws.{field-held}
use Rattle.fields.proofs.split.Split.field.Goals.{After-bytes_at}
use Rattle.fields.proofs.split.Split.field.Goals as goal

held : (c : After-bytes_at) → c.bytes_at.result.now ≡ held_at c.args.self c.args.k c.args.line.now
unfolding held_at
held c = rw (← c.in-Some.ensures.lookup.4 (omega arith) nowhere) c.bytes_at.ensures

pub returns-in-Some-clause-held : goal.returns-in-Some-clause-held
returns-in-Some-clause-held c = held c

pub returns-in-Some-clause-its_own : goal.returns-in-Some-clause-its_own
returns-in-Some-clause-its_own c =
    λ same kept. held c ∙ ap (λ (split : Split). held_at split c.args.k c.args.line.now) same ∙ field-held _ _ kept

pub returns-in-None-clause-held : goal.returns-in-None-clause-held
unfolding held_at bytes_at
returns-in-None-clause-held c = rw (← c.in-None.ensures.lookup.4 (omega arith) nowhere, le-leb 0 (length c.args.line.now) (omega arith))
